-- Rows that have one value for each of some rounds, and the columns that they make, one for each round.
use Rattle.std.specs.Prelude.{ℕ, List, map, slice_index_or}

-- what each row has at place j, and `none` where it is shorter
abbrev pub column : {A : Type 0} → A → ℕ → List (List A) → List A
column none j rows = map (λ row. slice_index_or row j none) rows
