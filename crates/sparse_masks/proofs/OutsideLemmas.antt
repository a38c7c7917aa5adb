-- Meters that don't stand from one number up to another one, and the neighbours as such meters.
use Rattle.std.proofs.Common.{◌≡◌, ℕ, zero, suc, ◌+◌, ◌-◌, ◌<◌, ◌⊎◌, Bool, true, false, not, ◌&&◌, ◌||◌, List, [], ◌∷◌, cond, refl, sym, ap, ◌∙◌, arith}
use Rattle.std.specs.Prelude.{◌==◌, nat_lt, nat_le, min}
use Rattle.std.specs.List.{filter, range_with_len}
use Rattle.std.proofs.lemmas.Bool.{and_parts, cases_order, ltb-true}
use Rattle.std.proofs.lemmas.Bool.Decides.{nat_tests}
use Rattle.missing_round.specs.Words.{group}
use Rattle.missing_round.specs.Sets.{IsSet, is_member, less, without}
use Rattle.missing_round.proofs.SetLemmas.{is_member-filter, picked-set, same_filter}
use Rattle.sparse_masks.specs.Neighbours.{are_neighbours}

-- ---- from one number up to another

is_member-range : (a n j : ℕ) → is_member j (range_with_len a n) ≡ (nat_le a j && nat_lt j (a + n))
is_member-range a zero j = grind (arith, nat_tests)
is_member-range a (suc n) j = ap (λ b. (a == j) || b) (is_member-range (a + 1) n j) ∙ grind (arith, nat_tests)

pub is_member-group : (n j : ℕ) → is_member j (group n) ≡ nat_lt j n
is_member-group n j = is_member-range 0 n j ∙ grind (arith, nat_tests)

pub set-below : (xs : List ℕ) → IsSet xs → (j : ℕ) → is_member j xs ≡ true → j < 256
set-below xs is j within =
    let picked : (is_member j (range_with_len 0 256) && is_member j xs) ≡ true
    = sym (is_member-filter (λ i. is_member i xs) j (range_with_len 0 256)) ∙ ap (is_member j) (picked-set xs is) ∙ within in
    ltb-true j 256 (sym (is_member-group 256 j) ∙ (and_parts (is_member j (range_with_len 0 256)) (is_member j xs) picked).0)

below-min : (j n : ℕ) → j < 256 → nat_lt j (min n 256) ≡ nat_lt j n
below-min j n lt = grind (arith, nat_tests, lt)

pub outside-is : (from until : ℕ) (xs : List ℕ) → IsSet xs → less xs (less (group (min until 256)) (group (min from 256))) ≡ filter (λ j. not (nat_le from j && nat_lt j until)) xs
outside-is from until xs is =
    same_filter (λ j. not (is_member j (less (group (min until 256)) (group (min from 256))))) (λ j. not (nat_le from j && nat_lt j until)) xs
    (λ j within.
    let low = set-below xs is j within in
    ap not (is_member-filter (λ i. not (is_member i (group (min from 256)))) j (group (min until 256)))
    ∙ ap (λ b. not (b && not (is_member j (group (min from 256))))) (is_member-group (min until 256) j ∙ below-min j until low)
    ∙ ap (λ b. not (nat_lt j until && not b)) (is_member-group (min from 256) j ∙ below-min j from low)
    ∙ grind (arith, nat_tests))

-- ---- the meters outside two stretches

pub filter-both : (p q : ℕ → Bool) (xs : List ℕ) → filter q (filter p xs) ≡ filter (λ i. p i && q i) xs
filter-both p q [] = refl
filter-both p q (x ∷ xs) = step (p x) (filter-both p q xs)
  where
    step : (c : Bool) → filter q (filter p xs) ≡ filter (λ i. p i && q i) xs → filter q (cond c (x ∷ filter p xs) (filter p xs)) ≡ cond (c && q x) (x ∷ filter (λ i. p i && q i) xs) (filter (λ i. p i && q i) xs)
    step true e = ap (λ l. cond (q x) (x ∷ l) l) e
    step false e = e

pub near-is : (w n m top : ℕ) (xs : List ℕ) → IsSet xs → ((j : ℕ) → j < 256 → nat_lt j top ≡ nat_lt j (m + (n - w)))
    → without m (filter (λ j. not (nat_le (m + 1 - (n - w)) j && nat_lt j (m - w))) (filter (λ j. not (nat_le (m + w + 1) j && nat_lt j top)) xs)) ≡ filter (are_neighbours w n m) xs
near-is w n m top xs is top_is =
    let above : ℕ → Bool = λ j. not (nat_le (m + w + 1) j && nat_lt j top) in
    let under : ℕ → Bool = λ j. not (nat_le (m + 1 - (n - w)) j && nat_lt j (m - w)) in
    ap (without m) (filter-both above under xs)
    ∙ filter-both (λ j. above j && under j) (λ j. not (j == m)) xs
    ∙ same_filter (λ j. (above j && under j) && not (j == m)) (are_neighbours w n m) xs
    (λ j within. ap (λ b. (not (nat_le (m + w + 1) j && b) && under j) && not (j == m)) (top_is j (set-below xs is j within)) ∙ test j (cases_order m j))
  where
    test : (j : ℕ) → (m ≡ j) ⊎ ((m < j) ⊎ (j < m))
        → ((not (nat_le (m + w + 1) j && nat_lt j (m + (n - w))) && not (nat_le (m + 1 - (n - w)) j && nat_lt j (m - w))) && not (j == m)) ≡ are_neighbours w n m j
    test j order = grind (arith, nat_tests, order)

pub near-from : (w n m at wide around top low under : ℕ) (xs above near all : List ℕ) → IsSet xs → at ≡ m → wide ≡ w → around ≡ n - wide → top ≡ min (at + around) 4294967295 → low ≡ at + 1 - around → under ≡ at - wide
    → above ≡ filter (λ j. not (nat_le (at + wide + 1) j && nat_lt j top)) xs → near ≡ filter (λ j. not (nat_le low j && nat_lt j under)) above → all ≡ without m near → all ≡ filter (are_neighbours w n m) xs
near-from w n m at wide around top low under xs above near all is at_is wide_is around_is top_is low_is under_is above_is near_is all_is =
    let begin : at + wide + 1 ≡ m + w + 1 = omega (arith, at_is, wide_is) in
    let first : low ≡ m + 1 - (n - w) = omega (arith, low_is, at_is, around_is, wide_is) in
    let last : under ≡ m - w = omega (arith, under_is, at_is, wide_is) in
    all_is
    ∙ ap (without m) (near_is ∙ ap (filter (λ j. not (nat_le low j && nat_lt j under))) (above_is ∙ ap (λ b. filter (λ j. not (nat_le b j && nat_lt j top)) xs) begin))
    ∙ ap (λ b. without m (filter (λ j. not (nat_le b j && nat_lt j under)) (filter (λ j. not (nat_le (m + w + 1) j && nat_lt j top)) xs))) first
    ∙ ap (λ b. without m (filter (λ j. not (nat_le (m + 1 - (n - w)) j && nat_lt j b)) (filter (λ j. not (nat_le (m + w + 1) j && nat_lt j top)) xs))) last
    ∙ near-is w n m top xs is (λ j lt. grind (arith, nat_tests, lt, top_is, at_is, around_is, wide_is))
