-- Members of lists that are appended, mapped and filtered.
use Rattle.std.proofs.Common.{◌≡◌, ℕ, zero, suc, ◌+◌, ◌<◌, ◌≤◌, Bool, true, false, cond, List, [], ◌∷◌, ◌++◌, map, ◌⊎◌, refl, sym, ap, ◌∙◌, subst, ⊎_elim, inl, inr, arith}
use Rattle.std.specs.List.{filter, flat_map, range_with_len, All}
use Rattle.std.proofs.lemmas.Bool.{cases_eq}
use Rattle.std.proofs.lemmas.List.Elements.{All-nil, All-cons, All-head, All-tail, All-append}
use Rattle.run_course.specs.Lists.{IsIn}

pub in_append : {X : Type 0} (x : X) (xs ys : List X) → IsIn x xs ⊎ IsIn x ys → IsIn x (xs ++ ys)
in_append x [] ys at = ⊎_elim (λ none. absurd none) (λ there. there) at
in_append x (z ∷ xs) ys at =
    ⊎_elim (λ first. ⊎_elim (λ here. inl here) (λ there. inr (in_append x xs ys (inl there))) first) (λ second. inr (in_append x xs ys (inr second))) at

pub in_from_append : {X : Type 0} (x : X) (xs ys : List X) → IsIn x (xs ++ ys) → IsIn x xs ⊎ IsIn x ys
in_from_append x [] ys at = inr at
in_from_append x (z ∷ xs) ys at =
    ⊎_elim (λ here. inl (inl here)) (λ there. ⊎_elim (λ first. inl (inr first)) (λ second. inr second) (in_from_append x xs ys there)) at

pub in_flat_map : {X Y : Type 0} (f : X → List Y) (y : Y) (x : X) (xs : List X) → IsIn x xs → IsIn y (f x) → IsIn y (flat_map f xs)
in_flat_map f y x [] at inner = absurd at
in_flat_map f y x (z ∷ xs) at inner =
    ⊎_elim (λ here. in_append y (f z) (flat_map f xs) (inl (subst (λ w. IsIn y (f w)) (sym here) inner)))
    (λ there. in_append y (f z) (flat_map f xs) (inr (in_flat_map f y x xs there inner))) at

pub in_from_flat_map : {X Y : Type 0} (f : X → List Y) (y : Y) (xs : List X) → IsIn y (flat_map f xs) → (x : X) × IsIn x xs × IsIn y (f x)
in_from_flat_map f y [] at = absurd at
in_from_flat_map f y (z ∷ xs) at =
    ⊎_elim (λ first. (z, inl refl, first)) (λ second. let found = in_from_flat_map f y xs second in (found.0, inr found.1, found.2)) (in_from_append y (f z) (flat_map f xs) at)

pub in_map : {X Y : Type 0} (f : X → Y) (x : X) (xs : List X) → IsIn x xs → IsIn (f x) (map f xs)
in_map f x [] at = absurd at
in_map f x (z ∷ xs) at = ⊎_elim (λ here. inl (ap f here)) (λ there. inr (in_map f x xs there)) at

pub in_from_map : {X Y : Type 0} (f : X → Y) (y : Y) (xs : List X) → IsIn y (map f xs) → (x : X) × IsIn x xs × (f x ≡ y)
in_from_map f y [] at = absurd at
in_from_map f y (z ∷ xs) at =
    ⊎_elim (λ here. (z, inl refl, here)) (λ there. let found = in_from_map f y xs there in (found.0, inr found.1, found.2)) at

pub in_filter : {X : Type 0} (p : X → Bool) (x : X) (xs : List X) → IsIn x xs → p x ≡ true → IsIn x (filter p xs)
in_filter p x [] at h = absurd at
in_filter p x (z ∷ xs) at h =
    ⊎_elim (λ here. subst (λ q. IsIn x (cond q (z ∷ filter p xs) (filter p xs))) (sym (ap p here ∙ h)) (inl here))
    (λ there. keep (p z) (in_filter p x xs there h)) at
  where
    keep : (q : Bool) → IsIn x (filter p xs) → IsIn x (cond q (z ∷ filter p xs) (filter p xs))
    keep true inner = inr inner
    keep false inner = inner

pub in_from_filter : {X : Type 0} (p : X → Bool) (x : X) (xs : List X) → IsIn x (filter p xs) → IsIn x xs × (p x ≡ true)
in_from_filter p x [] at = absurd at
in_from_filter p x (z ∷ xs) at = split (p z) refl at (in_from_filter p x xs)
  where
    split : (q : Bool) → p z ≡ q → IsIn x (cond q (z ∷ filter p xs) (filter p xs)) → (IsIn x (filter p xs) → IsIn x xs × (p x ≡ true)) → IsIn x (z ∷ xs) × (p x ≡ true)
    split true is inner later = ⊎_elim (λ here. (inl here, ap p (sym here) ∙ is)) (λ there. (inr (later there).0, (later there).1)) inner
    split false is inner later = (inr (later inner).0, (later inner).1)

pub in_range : (a n i : ℕ) → a ≤ i → i < a + n → IsIn i (range_with_len a n)
in_range a zero i above below = absurd (omega arith)
in_range a (suc n) i above below = ⊎_elim (λ e. inl e) (λ ne. inr (in_range (a + 1) n i (omega arith) (omega arith))) (cases_eq a i)

pub in_from_range : (a n i : ℕ) → IsIn i (range_with_len a n) → (a ≤ i) × (i < a + n)
in_from_range a zero i at = absurd at
in_from_range a (suc n) i at =
    ⊎_elim (λ here. (omega arith, omega arith)) (λ there. let found = in_from_range (a + 1) n i there in (omega arith, omega arith)) at

pub in_cond : {X : Type 0} (x : X) (q : Bool) (xs : List X) → IsIn x (cond q xs []) → (q ≡ true) × IsIn x xs
in_cond x true xs at = (refl, at)
in_cond x false xs at = absurd at

pub in_from_cond : {X : Type 0} (x : X) (q : Bool) (xs : List X) → q ≡ true → IsIn x xs → IsIn x (cond q xs [])
in_from_cond x q xs h at = subst (λ p. IsIn x (cond p xs [])) (sym h) at

-- ---- what holds of each member

pub all_in : {X : Type 0} (P : X → Type 0) (xs : List X) → All P xs → (x : X) → IsIn x xs → P x
all_in P [] all x at = absurd at
all_in P (z ∷ xs) all x at = ⊎_elim (λ here. subst P here (All-head P z xs all)) (λ there. all_in P xs (All-tail P z xs all) x there) at

pub all_from_in : {X : Type 0} (P : X → Type 0) (xs : List X) → ((x : X) → IsIn x xs → P x) → All P xs
all_from_in P [] each = All-nil P
all_from_in P (z ∷ xs) each = All-cons P z xs (each z (inl refl)) (all_from_in P xs (λ x at. each x (inr at)))

pub all_more : {X : Type 0} (P : X → Type 0) (xs : List X) (x : X) → All P xs → P x → All P (xs ++ x ∷ [])
all_more P xs x all here = All-append P xs (x ∷ []) all (All-cons P x [] here (All-nil P))
