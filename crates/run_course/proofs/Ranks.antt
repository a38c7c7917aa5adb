-- Lists of Sends in the order of their ranks.
use Rattle.std.proofs.Common.{◌≡◌, ℕ, zero, suc, ◌+◌, ◌*◌, ◌<◌, ◌≤◌, List, [], ◌∷◌, ◌++◌, refl, sym, ap, ◌∙◌, subst, ⊎_elim, inl, inr, arith}
use Rattle.std.specs.List.{flat_map, range_with_len}
use Rattle.group_plan.specs.declared.Tag.{Tag}
use Rattle.run_course.specs.Lists.{IsIn}
use Rattle.run_course.specs.Sends.{rank}
use Rattle.run_course.specs.Stages.{Ascends}

pub ascends_wider : (from from' to to' : ℕ) (ys : List Tag) → from' ≤ from → to ≤ to' → Ascends from to ys → Ascends from' to' ys
ascends_wider from from' to to' [] low high a = omega arith
ascends_wider from from' to to' (y ∷ ys) low high a = let h : from ≤ rank y = a.0 in (omega arith, ascends_wider (rank y + 1) (rank y + 1) to to' ys (omega arith) high a.1)

pub ascends_order : (from to : ℕ) (ys : List Tag) → Ascends from to ys → from ≤ to
ascends_order from to [] a = a
ascends_order from to (y ∷ ys) a = let h : from ≤ rank y = a.0 in let k = ascends_order (rank y + 1) to ys a.1 in omega arith

pub ascends_append : (from mid to : ℕ) (xs ys : List Tag) → Ascends from mid xs → Ascends mid to ys → Ascends from to (xs ++ ys)
ascends_append from mid to [] ys a b = ascends_wider mid from to to ys a (omega arith) b
ascends_append from mid to (x ∷ xs) ys a b = (a.0, ascends_append (rank x + 1) mid to xs ys a.1 b)

-- each rank lies between the bounds
pub ascends_bounds : (from to : ℕ) (ys : List Tag) (y : Tag) → Ascends from to ys → IsIn y ys → (from ≤ rank y) × (rank y < to)
ascends_bounds from to [] y a at = absurd at
ascends_bounds from to (x ∷ ys) y a at =
    ⊎_elim
    (λ here. let e : rank x ≡ rank y = ap rank here in let l : from ≤ rank x = a.0 in let k = ascends_order (rank x + 1) to ys a.1 in (omega arith, omega arith))
    (λ there. let b = ascends_bounds (rank x + 1) to ys y a.1 there in let l : from ≤ rank x = a.0 in let b0 : rank x + 1 ≤ rank y = b.0 in (omega arith, b.1)) at

-- what stands before a Send has a lower rank, and what stands behind it a higher one
pub ascends_around : (from to : ℕ) (xs : List Tag) (y : Tag) (ys : List Tag) → Ascends from to (xs ++ y ∷ ys) →
    Ascends from (rank y) xs × Ascends (rank y + 1) to ys
ascends_around from to [] y ys a = (a.0, a.1)
ascends_around from to (x ∷ xs) y ys a = let later = ascends_around (rank x + 1) to xs y ys a.1 in ((a.0, later.0), later.1)

pub ascends_split : (from to : ℕ) (xs ys : List Tag) → Ascends from to (xs ++ ys) → (mid : ℕ) × Ascends from mid xs × Ascends mid to ys
ascends_split from to [] ys a = (from, omega arith, a)
ascends_split from to (x ∷ xs) ys a = let later = ascends_split (rank x + 1) to xs ys a.1 in (later.0, (a.0, later.1), later.2)

-- a Send stands once
pub stands_once : (from to : ℕ) (xs : List Tag) (y : Tag) (ys : List Tag) → Ascends from to (xs ++ y ∷ ys) → IsIn y xs → ⊥
stands_once from to xs y ys a at = let b = ascends_bounds from (rank y) xs y (ascends_around from to xs y ys a).0 at in let l : rank y < rank y = b.1 in omega arith

-- lists in this order with the same members are the same
pub same_from_members : (from to : ℕ) (xs ys : List Tag) → Ascends from to xs → Ascends from to ys
    → ((y : Tag) → IsIn y xs → IsIn y ys) → ((y : Tag) → IsIn y ys → IsIn y xs) → xs ≡ ys
same_from_members from to [] [] a b there back = refl
same_from_members from to [] (y ∷ ys) a b there back = absurd (back y (inl refl))
same_from_members from to (x ∷ xs) [] a b there back = absurd (there x (inl refl))
same_from_members from to (x ∷ xs) (y ∷ ys) a b there back =
    let x_at : rank y ≤ rank x = ⊎_elim (λ e. let r : rank y ≡ rank x = ap rank e in omega arith) (λ at. let h = ascends_bounds (rank y + 1) to ys x b.1 at in let l : rank y + 1 ≤ rank x = h.0 in omega arith) (there x (inl refl)) in
    let first : y ≡ x = ⊎_elim (λ e. e) (λ at. let h = ascends_bounds (rank y + 1) to ys x b.1 at in let l : rank y + 1 ≤ rank x = h.0 in
    ⊎_elim (λ e. sym e) (λ yat. let k = ascends_bounds (rank x + 1) to xs y a.1 yat in let m : rank x + 1 ≤ rank y = k.0 in absurd (omega arith)) (back y (inl refl))) (there x (inl refl)) in
    let ranks : rank y ≡ rank x = ap rank first in
    let b' : Ascends (rank x + 1) to ys = subst (λ n. Ascends (n + 1) to ys) ranks b.1 in
    ap (λ z. z ∷ xs) (sym first)
    ∙ ap (λ zs. y ∷ zs) (same_from_members (rank x + 1) to xs ys a.1 b'
    (λ z at. ⊎_elim (λ e. let h = ascends_bounds (rank x + 1) to xs z a.1 at in let l : rank x + 1 ≤ rank z = h.0 in let q : rank y ≡ rank z = ap rank e in absurd (omega arith)) (λ t. t) (there z (inr at)))
    (λ z at. ⊎_elim (λ e. let h = ascends_bounds (rank x + 1) to ys z b' at in let l : rank x + 1 ≤ rank z = h.0 in let q : rank x ≡ rank z = ap rank e in absurd (omega arith)) (λ t. t) (back z (inr at))))

-- ---- blocks of equal width, one after another

pub ascends_flat_map : (f : ℕ → List Tag) (base width a n : ℕ) → ((i : ℕ) → a ≤ i → i < a + n → Ascends (base + i * width) (base + (i + 1) * width) (f i)) →
    Ascends (base + a * width) (base + (a + n) * width) (flat_map f (range_with_len a n))
ascends_flat_map f base width a zero each = omega arith
ascends_flat_map f base width a (suc n) each =
    let rest = ascends_flat_map f base width (a + 1) n (λ i above below. each i (omega arith) (omega arith)) in
    let e : a + 1 + n ≡ a + suc n = omega arith in
    ascends_append (base + a * width) (base + (a + 1) * width) (base + (a + suc n) * width) (f a) (flat_map f (range_with_len (a + 1) n)) (each a (omega arith) (omega arith))
    (subst (λ m. Ascends (base + (a + 1) * width) (base + m * width) (flat_map f (range_with_len (a + 1) n))) e rest)
