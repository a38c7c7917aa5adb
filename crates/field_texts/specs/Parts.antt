-- Texts cut at a byte.
use Rattle.std.specs.Prelude.{◌≡◌, ℕ, ◌+◌, ◌==◌, List, [], ◌∷◌, Option, None, Some, length}
use Rattle.std.specs.List.{slice_split}
use Rattle.std.specs.Borrow.{Bor}

-- the parts of a text between the bytes that are stop, one more than those
abbrev pub parts : ℕ → List ℕ → List (List ℕ)
parts stop bytes = slice_split (λ b. b == stop) bytes

-- the text before the first stop and that after it, where there is one
abbrev pub Cuts : ℕ → List ℕ → Option (Bor (List ℕ) × Bor (List ℕ)) → Type 0
Cuts stop bytes None = parts stop bytes ≡ bytes ∷ []
Cuts stop bytes (Some x) = (parts stop bytes ≡ x.0.now ∷ parts stop x.1.now) × (length bytes ≡ length x.0.now + 1 + length x.1.now)
