-- Lists that ascend and have the same members are the same.
use Rattle.std.proofs.Common.{◌≡◌, ℕ, zero, suc, ◌+◌, ◌<◌, Bool, true, false, ◌&&◌, ◌||◌, List, [], ◌∷◌, length, refl, sym, ap, ◌∙◌, arith, ⊎_elim}
use Rattle.std.specs.Prelude.{◌==◌}
use Rattle.std.specs.List.{filter, range_with_len, All, AllPairs}
use Rattle.std.specs.List.Sorted.{IsStrictlyIncreasing}
use Rattle.std.proofs.lemmas.Bool.{false≢true, cases_eq, ne_eqb, eqb-true, or_cases, and_parts, and_from}
use Rattle.std.proofs.lemmas.List.Kept.{AllPairs-from_increasing, IsStrictlyIncreasing-filter}
use Rattle.std.proofs.lemmas.List.FromFn.{length-range_with_len, get_or-range_with_len}
use Rattle.missing_round.specs.Sets.{is_member}
use Rattle.missing_round.proofs.SetLemmas.{is_member-filter}
use Rattle.group_plan.specs.Plans.{Group, size, is_member as is_plan_member, members}
use Rattle.mask_graphs.proofs.ListFacts.{member_head, same_test}

-- each is below all members after it
abbrev pub Ascends : List ℕ → Type 0
Ascends [] = Unit {0}
Ascends (x ∷ xs) = ((k : ℕ) → is_member k xs ≡ true → x < k) × Ascends xs

below-members : (x : ℕ) (xs : List ℕ) → All (λ k. x < k) xs → (k : ℕ) → is_member k xs ≡ true → x < k
below-members x [] all k within = absurd (false≢true within)
below-members x (y ∷ ys) all k within =
    ⊎_elim
    (λ here. let lt : x < y = all zero zero (omega arith) in let e : y ≡ k = eqb-true y k here in omega (arith, lt, e))
    (λ later. below-members x ys (λ i d lt. all (suc i) d (omega arith)) k later)
    (or_cases (y == k) (is_member k ys) within)

pairs-ascend : (xs : List ℕ) → AllPairs (λ x y. x < y) xs → Ascends xs
pairs-ascend [] all = tt
pairs-ascend (x ∷ xs) all =
    (below-members x xs (λ k d within. all zero (suc k) d (omega arith) (omega arith)), pairs-ascend xs (λ i j d lt within. all (suc i) (suc j) d (omega arith) (omega arith)))

pub ascends-from : (xs : List ℕ) → IsStrictlyIncreasing xs → Ascends xs
ascends-from xs h = pairs-ascend xs (AllPairs-from_increasing xs h)

pub same_lists : (xs ys : List ℕ) → Ascends xs → Ascends ys → ((k : ℕ) → is_member k xs ≡ is_member k ys) → xs ≡ ys
same_lists [] [] a b same = refl
same_lists [] (y ∷ ys) a b same = absurd (false≢true (same y ∙ member_head y ys))
same_lists (x ∷ xs) [] a b same = absurd (false≢true (sym (same x) ∙ member_head x xs))
same_lists (x ∷ xs) (y ∷ ys) a b same =
    let x_in : ((y == x) || is_member x ys) ≡ true = sym (same x) ∙ member_head x xs in
    let y_in : ((x == y) || is_member y xs) ≡ true = same y ∙ member_head y ys in
    let e : x ≡ y
    = ⊎_elim (λ here. sym (eqb-true y x here)) (λ later. ⊎_elim (λ here. eqb-true x y here) (λ there. absurd (let l = a.0 y there in let m = b.0 x later in omega (arith, l, m))) (or_cases (x == y) (is_member y xs) y_in))
    (or_cases (y == x) (is_member x ys) x_in) in
    let rest : xs ≡ ys
    = same_lists xs ys a.1 b.1
    (λ k. ⊎_elim
    (λ k_is. out k x xs a.0 (sym k_is) ∙ sym (out k y ys b.0 (sym (k_is ∙ e))))
    (λ ne. sym (ap (λ c. c || is_member k xs) (ne_eqb x k (λ f. ne (sym f)))) ∙ same k ∙ ap (λ c. c || is_member k ys) (ne_eqb y k (λ f. ne (sym f ∙ sym e))))
    (cases_eq k x)) in
    λ i. e i ∷ rest i
  where
    out : (k x : ℕ) (l : List ℕ) → ((j : ℕ) → is_member j l ≡ true → x < j) → x ≡ k → is_member k l ≡ false
    out k x l above e = step (is_member k l) refl
      where
        step : (c : Bool) → is_member k l ≡ c → c ≡ false
        step true h = absurd (let lt = above k h in omega (arith, lt, e))
        step false h = refl

-- ---- the members of a round

increasing-range : (a n : ℕ) → IsStrictlyIncreasing (range_with_len a n)
increasing-range a n k h =
    let l : length (range_with_len a n) ≡ n = length-range_with_len a n in
    omega (arith, l, get_or-range_with_len a n k 0 (omega (arith, l)), get_or-range_with_len a n (k + 1) 0 (omega (arith, l)))

pub members-increasing : (groups : List Group) (g r : ℕ) → IsStrictlyIncreasing (members groups g r)
members-increasing groups g r = IsStrictlyIncreasing-filter (is_plan_member groups g r) (range_with_len 0 (size groups g)) (increasing-range 0 (size groups g))

-- a list that ascends within another one is what its members are there
pub within-is : (set ms : List ℕ) → IsStrictlyIncreasing set → IsStrictlyIncreasing ms → ((k : ℕ) → is_member k set ≡ true → is_member k ms ≡ true) → filter (λ j. is_member j set) ms ≡ set
within-is set ms one two within =
    same_lists (filter (λ j. is_member j set) ms) set (ascends-from (filter (λ j. is_member j set) ms) (IsStrictlyIncreasing-filter (λ j. is_member j set) ms two)) (ascends-from set one)
    (λ k. is_member-filter (λ j. is_member j set) k ms
    ∙ same_test (is_member k ms && is_member k set) (is_member k set) (λ h. (and_parts (is_member k ms) (is_member k set) h).1) (λ h. and_from (is_member k ms) (is_member k set) (within k h) h))
