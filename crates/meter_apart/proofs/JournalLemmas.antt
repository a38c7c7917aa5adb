-- Journals with one line more.
use Rattle.std.proofs.Common.{◌≡◌, ℕ, Bool, true, false, List, [], ◌∷◌, ◌++◌, Option, Some, None, is_some, refl, sym, ap}
use Rattle.std.specs.Prelude.{◌==◌, if◌then◌else◌}
use Rattle.std.proofs.lemmas.Bool.{false≢true, eq-eqb}
use Rattle.meter_apart.specs.declared.answers.Noted.{Noted}
use Rattle.meter_apart.specs.declared.answers.Noted.TheVariants.{Read, Kept}
use Rattle.meter_apart.specs.Journal.{marked, kept}

some≢none : {A : Type 0} (x : A) → Some x ≡ None → ⊥
some≢none x h = false≢true (sym (ap is_some h))

-- where a line says nothing of the round, the later ones tell
first_noted : {A : Type 0} (b : Bool) (here x : A) (old new : Option A) → (if b then Some here else old) ≡ None → (old ≡ None → new ≡ Some x) → (if b then Some here else new) ≡ Some x
first_noted true here x old new none later = absurd (some≢none here none)
first_noted false here x old new none later = later none

-- ---- nothing was noted

pub marked-nil : (r : ℕ) → None ≡ marked [] r
unfolding marked
marked-nil r = refl

pub kept-nil : (r : ℕ) → None ≡ kept [] r
unfolding kept
kept-nil r = refl

-- ---- a reading was marked

pub marked-read_same : (j : List Noted) (r x : ℕ) → marked j r ≡ None → marked (j ++ Read r x ∷ []) r ≡ Some x
unfolding marked
marked-read_same [] r x none = ap (λ b. if b then Some x else None) (eq-eqb r r refl)
marked-read_same (Read p y ∷ j) r x none = first_noted (p == r) y x (marked j r) (marked (j ++ Read r x ∷ []) r) none (marked-read_same j r x)
marked-read_same (Kept p s ∷ j) r x none = marked-read_same j r x none

pub marked-read_other : (j : List Noted) (p x r : ℕ) → (p == r) ≡ false → marked (j ++ Read p x ∷ []) r ≡ marked j r
unfolding marked
marked-read_other [] p x r other = ap (λ b. if b then Some x else None) other
marked-read_other (Read q y ∷ j) p x r other = ap (λ o. if q == r then Some y else o) (marked-read_other j p x r other)
marked-read_other (Kept q s ∷ j) p x r other = marked-read_other j p x r other

pub kept-read : (j : List Noted) (p x r : ℕ) → kept (j ++ Read p x ∷ []) r ≡ kept j r
unfolding kept
kept-read [] p x r = refl
kept-read (Read q y ∷ j) p x r = kept-read j p x r
kept-read (Kept q s ∷ j) p x r = ap (λ o. if q == r then Some s else o) (kept-read j p x r)

-- ---- a set was kept

pub kept-kept_same : (j : List Noted) (r : ℕ) (set : List ℕ) → kept j r ≡ None → kept (j ++ Kept r set ∷ []) r ≡ Some set
unfolding kept
kept-kept_same [] r set none = ap (λ b. if b then Some set else None) (eq-eqb r r refl)
kept-kept_same (Read p y ∷ j) r set none = kept-kept_same j r set none
kept-kept_same (Kept p s ∷ j) r set none = first_noted (p == r) s set (kept j r) (kept (j ++ Kept r set ∷ []) r) none (kept-kept_same j r set)

pub kept-kept_other : (j : List Noted) (p : ℕ) (set : List ℕ) (r : ℕ) → (p == r) ≡ false → kept (j ++ Kept p set ∷ []) r ≡ kept j r
unfolding kept
kept-kept_other [] p set r other = ap (λ b. if b then Some set else None) other
kept-kept_other (Read q y ∷ j) p set r other = kept-kept_other j p set r other
kept-kept_other (Kept q s ∷ j) p set r other = ap (λ o. if q == r then Some s else o) (kept-kept_other j p set r other)

pub marked-kept : (j : List Noted) (p : ℕ) (set : List ℕ) (r : ℕ) → marked (j ++ Kept p set ∷ []) r ≡ marked j r
unfolding marked
marked-kept [] p set r = refl
marked-kept (Read q y ∷ j) p set r = ap (λ o. if q == r then Some y else o) (marked-kept j p set r)
marked-kept (Kept q s ∷ j) p set r = marked-kept j p set r
