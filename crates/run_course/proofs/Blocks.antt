-- Lists that are made part by part, and lists out of which an element is taken.
use Rattle.std.proofs.Common.{◌≡◌, ℕ, zero, suc, ◌+◌, ◌<◌, List, [], ◌∷◌, ◌++◌, length, get_or, take, drop, sym, ap, ◌∙◌, subst, ⊎_elim, arith, append-nil}
use Rattle.std.specs.List.{flat_map, range_with_len, remove}
use Rattle.std.proofs.lemmas.Grind.{flat_map-append}
use Rattle.event_schedule.proofs.RoundMembers.{range_last}
use Rattle.run_course.specs.Lists.{IsIn}

pub range_next : (k : ℕ) → range_with_len 0 (k + 1) ≡ range_with_len 0 k ++ k ∷ []
range_next k = let e : k + 1 ≡ suc k = omega arith in ap (range_with_len 0) e ∙ range_last 0 k k (omega arith)

pub flat_next : {X : Type 0} (f : ℕ → List X) (k : ℕ) → flat_map f (range_with_len 0 (k + 1)) ≡ flat_map f (range_with_len 0 k) ++ f k
flat_next f k = ap (flat_map f) (range_next k) ∙ flat_map-append f (range_with_len 0 k) (k ∷ []) ∙ ap (λ l. flat_map f (range_with_len 0 k) ++ l) (append-nil (f k))

pub parted : {X : Type 0} (x : X) (xs : List X) (at : ℕ) → at < length xs → get_or xs at x ≡ x → xs ≡ take at xs ++ x ∷ drop (suc at) xs
parted x [] at below is = absurd (omega arith)
parted x (y ∷ xs) zero below is = ap (λ z. z ∷ xs) is
parted x (y ∷ xs) (suc at) below is = ap (λ l. y ∷ l) (parted x xs at (omega arith) is)

pub nowhere : {X : Type 0} (x : X) (xs : List X) → ((k : ℕ) → k < length xs → get_or xs k x ≡ x → ⊥) → IsIn x xs → ⊥
nowhere x [] none at = at
nowhere x (y ∷ xs) none at = ⊎_elim (λ here. none 0 (omega arith) here) (λ there. nowhere x xs (λ k below. none (suc k) (omega arith)) there) at

pub removed : {X : Type 0} (x : X) (old xs new : List X) (at : ℕ) (item : X) → xs ≡ old → at < length xs → item ≡ get_or xs at item → item ≡ x → new ≡ remove xs at
    → (before : List X) × (after : List X) × (old ≡ before ++ x ∷ after) × (new ≡ before ++ after)
removed {X} x old xs new at item start below read is out =
    let P : X → Type 0 = λ y. y ≡ get_or xs at y in
    (take at xs, drop (suc at) xs, sym start ∙ parted x xs at below (sym (subst P is read)), out)
