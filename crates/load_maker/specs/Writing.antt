-- The texts of keys and readings as they are drawn, one after another.
use Rattle.std.specs.Prelude.{ℕ, ◌*◌, List, [], ◌∷◌, ◌++◌, codes, decimal, length, Option, Some}
use Rattle.std.specs.List.{flat_map, range_with_len}
use Rattle.pair_keys.specs.declared.KeyId.{KeyId}
use Rattle.plan_files.specs.PlainRows.{row_text}
use Rattle.plan_files.specs.Spelling.{key_fields, reading_field}
use Rattle.rand_chacha.specs.ChaCha.{ChaCha}
use Rattle.load_maker.specs.Drawing.{ahead, key_drawn, reading_drawn}

-- ---- the plan file

-- the first three rows
abbrev pub start_text : (rounds : ℕ) → List ℕ
start_text rounds = codes "plan,1" ++ 10 ∷ codes "rounds," ++ decimal rounds ++ 10 ∷ codes "windows,2,4" ++ 10 ∷ []

-- the row of group g
abbrev pub group_text : (meters g : ℕ) → List ℕ
group_text meters g = codes "group,g" ++ decimal g ++ codes "," ++ decimal meters ++ codes ",2" ++ 10 ∷ []

-- the row of the lane
abbrev pub lane_text : (seed last : ℕ) → List ℕ
lane_text seed last = codes "lane,seeded," ++ decimal seed ++ codes ":5:10:2,0," ++ decimal last ++ 10 ∷ []

-- the rows of keys, of which each is the next of the stream
unfoldable pub keys_text : ChaCha → List KeyId → List ℕ
keys_text stream [] = []
keys_text stream (which ∷ more) = row_text (key_fields which (Some (key_drawn stream))) ++ keys_text (ahead stream 8) more

-- the stream after as many keys
abbrev pub after_keys : ChaCha → List KeyId → ChaCha
after_keys stream keys = ahead stream (8 * length keys)

-- ---- the readings file

-- a field behind its comma
abbrev pub field_text : Option ℕ → List ℕ
field_text reading = 44 ∷ reading_field reading

-- the fields of the next n readings of the stream
abbrev pub fields_text : ChaCha → ℕ → List ℕ
fields_text stream n = flat_map (λ i. field_text (reading_drawn (ahead stream (2 * i)))) (range_with_len 0 n)

-- the row of group g in round r
unfoldable pub row_drawn : ChaCha → (g r meters : ℕ) → List ℕ
row_drawn stream g r meters = codes "g" ++ decimal g ++ codes "," ++ decimal r ++ fields_text stream meters ++ 10 ∷ []

-- the rows of group g
abbrev pub group_rows_text : ChaCha → (g meters rounds : ℕ) → List ℕ
group_rows_text stream g meters rounds = flat_map (λ r. row_drawn (ahead stream (2 * (r * meters))) g r meters) (range_with_len 0 rounds)
