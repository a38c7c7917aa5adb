-- The line of a row, part by part.
use Rattle.std.proofs.Common.{◌≡◌, ℕ, List, [], ◌∷◌, ◌++◌, refl, ap, ◌∙◌, sym, append_assoc}
use Rattle.std.specs.Prelude.{codes, decimal}
use Rattle.pair_keys.specs.declared.KeyId.{KeyId}
use Rattle.pair_keys.specs.declared.KeyId.TheVariants.{Own, Pair}
use Rattle.transcript_text.specs.Spelling.{joined, ended}
use Rattle.twin_worlds.specs.declared.rows.MovedRow.{MovedRow}
use Rattle.twin_worlds.specs.MasksText.{word_text, place_fields, row_text}

-- two fields more
two_more : (f : List ℕ) (fs : List (List ℕ)) (a b : List ℕ) → joined (f ∷ (fs ++ a ∷ b ∷ [])) ≡ joined (f ∷ fs) ++ (codes "," ++ (a ++ (codes "," ++ b)))
two_more f [] a b = refl
two_more f (g ∷ gs) a b = ap (λ rest. f ++ 44 ∷ rest) (two_more g gs a b) ∙ sym (append_assoc f (44 ∷ joined (g ∷ gs)) (codes "," ++ (a ++ (codes "," ++ b))))

place-and_words : (id : KeyId) (r : ℕ) (a b : List ℕ) → joined (place_fields id r ++ a ∷ b ∷ []) ≡ joined (place_fields id r) ++ (codes "," ++ (a ++ (codes "," ++ b)))
place-and_words (Own g i) r a b = two_more (codes "own") (decimal g ∷ decimal r ∷ decimal i ∷ []) a b
place-and_words (Pair g i j) r a b = two_more (codes "pair") (decimal g ∷ decimal r ∷ decimal i ∷ decimal j ∷ []) a b

-- the line, where the fields of its place and then its words are written
pub row_is : (row : MovedRow) (old place words : List ℕ) → place ≡ old ++ joined (place_fields row.id row.round) → words ≡ place ++ codes "," ++ word_text row.old ++ codes "," ++ word_text row.new
    → words ++ codes "\n" ≡ old ++ ended (row_text row)
unfolding row_text
row_is row old place words first second =
    rw (place-and_words row.id row.round (word_text row.old) (word_text row.new)) (rw second (rw first (simp append_assoc refl)))

-- the place of a pair, by its numbers
pub pair_is : (id : KeyId) (g i j r : ℕ) (old start middle : List ℕ) → id ≡ Pair g i j → start ≡ old ++ codes "pair" → middle ≡ start ++ codes "," ++ decimal g ++ codes "," ++ decimal r
    → middle ++ codes "," ++ decimal i ++ codes "," ++ decimal j ≡ old ++ joined (place_fields id r)
pair_is id g i j r old start middle is first second = rw is (rw second (rw first (simp append_assoc refl)))
