-- Sets of meters as text.
use Rattle.std.specs.Prelude.{ℕ, ◌+◌, List, [], ◌∷◌, ◌++◌, map, codes, decimal, Option, None, Some, if◌then◌else◌}
use Rattle.std.specs.List.{join_with_byte}
use Rattle.std.specs.Str.{bytes_eq}
use Rattle.field_texts.specs.Numbers.{number_of, within}
use Rattle.field_texts.specs.Parts.{parts}

-- the list with these numbers in front, where there is one
abbrev pub ahead : List ℕ → Option (List ℕ) → Option (List ℕ)
ahead xs None = None
ahead xs (Some ys) = Some (xs ++ ys)

-- a number, then what follows it, where both are there
abbrev pub with_first : Option ℕ → (ℕ → Option (List ℕ)) → Option (List ℕ)
with_first None rest = None
with_first (Some x) rest = ahead (x ∷ []) (rest x)

-- numbers that ascend, from low on and below high
unfoldable pub ascending : ℕ → ℕ → List (List ℕ) → Option (List ℕ)
ascending low high [] = Some []
ascending low high (p ∷ ps) = with_first (within low high (number_of p)) (λ x. ascending (x + 1) high ps)

-- a set of meters below high
unfoldable pub set_of : ℕ → List ℕ → Option (List ℕ)
set_of high text = if bytes_eq text (codes "-") then Some [] else ascending 0 high (parts 43 text)

-- numbers joined by `+`, or `-` where there is none
abbrev pub numbers_text : List ℕ → List ℕ
numbers_text [] = codes "-"
numbers_text (x ∷ xs) = join_with_byte 43 (map decimal (x ∷ xs))
