-- What a cut leaves of lines.
use Rattle.std.specs.Prelude.{◌≡◌, ◌==◌, not, ℕ, Bool, true, List, [], ◌∷◌, ◌++◌, length, filter, take}
use Rattle.std.specs.List.{flat_map, list_all}

-- no newline stands in a text
abbrev pub is_text : List ℕ → Bool
is_text text = list_all (λ c. not (c == 10)) text

-- nor in the text of each line
abbrev pub are_texts : {L : Type 0} → (L → List ℕ) → List L → Bool
are_texts write lines = list_all (λ line. is_text (write line)) lines

-- the bytes of lines, each with its newline
abbrev pub bytes_by : {L : Type 0} → (L → List ℕ) → List L → List ℕ
bytes_by write lines = flat_map (λ line. write line ++ 10 ∷ []) lines

-- how many newlines bytes have
abbrev pub newlines : List ℕ → ℕ
newlines bytes = length (filter (λ c. c == 10) bytes)

-- the lines that are whole in the first n bytes of lines: as many as these bytes have newlines
abbrev pub whole_in : {L : Type 0} → (L → List ℕ) → List L → ℕ → List L
whole_in write lines n = take (newlines (take n (bytes_by write lines))) lines

-- the first n bytes of lines are the whole ones in them, and a rest without newline
pub record IsCut {L : Type 0} (write : L → List ℕ) (lines : List L) (n : ℕ) : Type 0 where
  pub rest : List ℕ
  pub bytes : take n (bytes_by write lines) ≡ bytes_by write (whole_in write lines n) ++ rest
  pub no_more : is_text rest ≡ true
