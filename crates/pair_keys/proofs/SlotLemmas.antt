-- Elements of a list of which one is replaced.
use Rattle.std.proofs.Common.{◌≡◌, ℕ, zero, suc, ◌<◌, List, [], ◌∷◌, length, set, slice_get, Some, refl, ap, arith}

pub slice_get-set_same : {X : Type 0} (xs : List X) (g : ℕ) (y : X) → g < length xs → slice_get (set xs g y) g ≡ Some y
slice_get-set_same [] g y h = absurd (omega arith)
slice_get-set_same (x ∷ xs) zero y h = refl
slice_get-set_same (x ∷ xs) (suc g) y h = slice_get-set_same xs g y (omega arith)

pub slice_get-set_other : {X : Type 0} (xs : List X) (g h : ℕ) (y : X) → (g ≡ h → ⊥) → slice_get (set xs g y) h ≡ slice_get xs h
slice_get-set_other [] g h y ne = refl
slice_get-set_other (x ∷ xs) zero zero y ne = absurd (ne refl)
slice_get-set_other (x ∷ xs) zero (suc h) y ne = refl
slice_get-set_other (x ∷ xs) (suc g) zero y ne = refl
slice_get-set_other (x ∷ xs) (suc g) (suc h) y ne = slice_get-set_other xs g h y (λ e. ne (ap suc e))
