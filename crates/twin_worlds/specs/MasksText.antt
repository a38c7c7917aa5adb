-- The masks file: a line for each word that moves.
use Rattle.std.specs.Prelude.{ℕ, List, [], ◌∷◌, ◌++◌, length, codes, decimal}
use Rattle.std.specs.Int.{to_be_bytes, w64}
use Rattle.std.specs.List.{flat_map}
use Rattle.hex.specs.Hex.{encode_lower}
use Rattle.pair_keys.specs.declared.KeyId.{KeyId}
use Rattle.pair_keys.specs.declared.KeyId.TheVariants.{Own, Pair}
use Rattle.transcript_text.specs.Spelling.{joined, ended}
use Rattle.twin_worlds.specs.declared.rows.MovedRow.{MovedRow}

-- a word as 16 hexadecimal digits
abbrev pub word_text : ℕ → List ℕ
word_text word = encode_lower (to_be_bytes w64 word)

-- which word moves: its key, and its round
abbrev pub place_fields : KeyId → ℕ → List (List ℕ)
place_fields (Own g i) r = codes "own" ∷ decimal g ∷ decimal r ∷ decimal i ∷ []
place_fields (Pair g i j) r = codes "pair" ∷ decimal g ∷ decimal r ∷ decimal i ∷ decimal j ∷ []

-- the line of a row, without its newline: where the word is, and its old and its new value
unfoldable pub row_text : MovedRow → List ℕ
row_text row = joined (place_fields row.id row.round ++ word_text row.old ∷ word_text row.new ∷ [])

-- the text of the masks file
unfoldable pub masks_text : List MovedRow → List ℕ
masks_text rows =
    ended (codes "meteragg masks 1") ++ flat_map (λ row. ended (row_text row)) rows ++ ended (codes "end," ++ decimal (length rows))
