-- Texts cut at a byte.
use Rattle.std.specs.Prelude.{◌≡◌, ◌≤◌, ℕ, zero, suc, List, [], ◌∷◌, map, take, length}
use Rattle.transcript_text.specs.declared.cut.Fields.{Fields}

-- the part at a place, or nothing
abbrev pub at : List (List ℕ) → ℕ → List ℕ
at [] i = []
at (f ∷ fs) zero = f
at (f ∷ fs) (suc i) = at fs i

-- the fields that are kept
abbrev pub view : Fields → List (List ℕ)
view f = map (λ s. s.now) (take f.count f.at)

pub record AreFields (f : Fields) : Type 0 where
  pub count : f.count ≤ 8
  pub room : length f.at ≡ 8
