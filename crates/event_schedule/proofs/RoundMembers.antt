-- The members of a round, meter by meter, and the floor of a group.
use Rattle.std.proofs.Common.{◌≡◌, ◌∙◌, ◌≤◌, ◌<◌, ◌+◌, ◌==◌, ℕ, zero, suc, Bool, true, false, cond, nat_lt, List, [], ◌∷◌, ◌++◌, length, map, filter, refl, sym, ap, arith, append-nil}
use Rattle.std.specs.Prelude.{slice_index_or}
use Rattle.std.specs.List.{range_with_len}
use Rattle.std.proofs.lemmas.Bool.Decides.{nat_tests}
use Rattle.std.proofs.lemmas.List.Elements.{filter-append}
use Rattle.missing_round.specs.Sets.{joined}
use Rattle.group_plan.specs.declared.plan.GroupPlan.{GroupPlan}
use Rattle.group_plan.specs.Plans.{Group, floor_of}
use Rattle.group_plan.specs.NewPlans.{stated}

pub range_last : (a n j : ℕ) → a + n ≡ j → range_with_len a (suc n) ≡ range_with_len a n ++ j ∷ []
range_last a zero j h = let e : a ≡ j = omega arith in ap (λ q. q ∷ []) e
range_last a (suc n) j h = ap (λ q. a ∷ q) (range_last (a + 1) n j (omega arith))

joined_last : (p : ℕ → Bool) (a n m : ℕ) → a + n ≤ m → joined m (filter p (range_with_len a n)) ≡ filter p (range_with_len a n) ++ m ∷ []
joined_last p a zero m h = refl
joined_last p a (suc n) m h = by_test (p a) (filter p (range_with_len (a + 1) n)) (joined_last p (a + 1) n m (omega arith))
  where
    by_test : (b : Bool) (xs : List ℕ) → joined m xs ≡ xs ++ m ∷ [] → joined m (cond b (a ∷ xs) xs) ≡ cond b (a ∷ xs) xs ++ m ∷ []
    by_test false xs ih = ih
    by_test true xs ih =
        let l : nat_lt m a ≡ false = grind (arith, nat_tests) in
        let e : (a == m) ≡ false = grind (arith, nat_tests) in
        rw (l, e, ih) refl

-- the members below one meter more
filter_more : (p : ℕ → Bool) (n : ℕ) → filter p (range_with_len 0 (n + 1)) ≡ filter p (range_with_len 0 n) ++ filter p (n ∷ [])
filter_more p n =
    let e : n + 1 ≡ suc n = omega arith in
    ap (λ k. filter p (range_with_len 0 k)) e ∙ ap (filter p) (range_last 0 n n (omega arith)) ∙ filter-append p (range_with_len 0 n) (n ∷ [])

-- one more meter, which is a member
pub one_more : (p : ℕ → Bool) (n : ℕ) (set : List ℕ) → set ≡ filter p (range_with_len 0 n) → p n ≡ true → joined n set ≡ filter p (range_with_len 0 (n + 1))
one_more p n set is t =
    let last : filter p (n ∷ []) ≡ n ∷ [] = rw t refl in
    ap (joined n) is ∙ joined_last p 0 n n (omega arith) ∙ sym (filter_more p n ∙ ap (λ q. filter p (range_with_len 0 n) ++ q) last)

-- one more meter, which is none
pub one_less : (p : ℕ → Bool) (n : ℕ) (set : List ℕ) → set ≡ filter p (range_with_len 0 n) → p n ≡ false → set ≡ filter p (range_with_len 0 (n + 1))
one_less p n set is t =
    let last : filter p (n ∷ []) ≡ [] = rw t refl in
    is ∙ sym (filter_more p n ∙ ap (λ q. filter p (range_with_len 0 n) ++ q) last ∙ append-nil (filter p (range_with_len 0 n)))

pub floor-is : (groups : List Group) (g : ℕ) (d : GroupPlan) → g < length groups → (slice_index_or (map stated groups) g d).floor ≡ floor_of groups g
floor-is [] g d lt = absurd (omega (arith, lt))
floor-is (x ∷ groups) zero d lt = refl
floor-is (x ∷ groups) (suc g) d lt = floor-is groups g d (omega (arith, lt))
