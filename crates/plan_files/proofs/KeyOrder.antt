-- The list of all keys of a plan: each of them stands in it, once, and no other.
use Rattle.std.proofs.Common.{◌≡◌, ◌<◌, ◌+◌, ◌-◌, ℕ, zero, suc, true, List, ◌++◌, length, map, refl, arith}
use Rattle.std.proofs.lemmas.Bool.Decides.{nat_tests}
use Rattle.std.specs.List.{flat_map, list_all, list_any, range_with_len}
use Rattle.group_plan.specs.Plans.{PlanView, size}
use Rattle.group_plan.proofs.MeterNumbers.{group-lt}
use Rattle.pair_keys.specs.Ids.{is_key, same_id}
use Rattle.pair_keys.specs.declared.KeyId.{KeyId}
use Rattle.pair_keys.specs.declared.KeyId.TheVariants.{Own, Pair}
use Rattle.plan_files.specs.MissingKeys.{group_keys, pairs_above, plan_keys}
use Rattle.plan_files.proofs.DistinctLemmas.{Distinct, Respects, Tagged, TaggedFrom, all_append, all_flat, all_map, any_append_left, any_append_right, any_flat, any_map, distinct_append, distinct_flat, distinct_map, tagged_append, tagged_flat, tagged_map}

-- ---- what tells keys apart

abbrev group_tag : KeyId → ℕ
group_tag (Own g i) = g
group_tag (Pair g low high) = g

-- own keys first
abbrev kind_tag : KeyId → ℕ
kind_tag (Own g i) = 0
kind_tag (Pair g low high) = 1

abbrev low_tag : KeyId → ℕ
low_tag (Own g i) = i
low_tag (Pair g low high) = low

abbrev last_tag : KeyId → ℕ
last_tag (Own g i) = i
last_tag (Pair g low high) = high

by_group : Respects same_id group_tag
by_group (Own g i) (Own h j) same = grind (arith, nat_tests, same)
by_group (Own g i) (Pair h l k) same = absurd cc
by_group (Pair g low high) (Own h j) same = absurd cc
by_group (Pair g low high) (Pair h l k) same = grind (arith, nat_tests, same)

by_kind : Respects same_id kind_tag
by_kind (Own g i) (Own h j) same = refl
by_kind (Own g i) (Pair h l k) same = absurd cc
by_kind (Pair g low high) (Own h j) same = absurd cc
by_kind (Pair g low high) (Pair h l k) same = refl

by_low : Respects same_id low_tag
by_low (Own g i) (Own h j) same = grind (arith, nat_tests, same)
by_low (Own g i) (Pair h l k) same = absurd cc
by_low (Pair g low high) (Own h j) same = absurd cc
by_low (Pair g low high) (Pair h l k) same = grind (arith, nat_tests, same)

by_last : Respects same_id last_tag
by_last (Own g i) (Own h j) same = grind (arith, nat_tests, same)
by_last (Own g i) (Pair h l k) same = absurd cc
by_last (Pair g low high) (Own h j) same = absurd cc
by_last (Pair g low high) (Pair h l k) same = grind (arith, nat_tests, same)

-- ---- each key once

group_distinct : (g n : ℕ) → Distinct same_id (group_keys g n)
group_distinct g n =
    distinct_append same_id kind_tag by_kind 0 (map (Own g) (range_with_len 0 n)) (flat_map (pairs_above g n) (range_with_len 0 n))
    (tagged_map kind_tag 0 (Own g) (λ j. refl) 0 n)
    (pairs_from n 0 n)
    (distinct_map same_id last_tag by_last (Own g) (λ k. refl) 0 n)
    (distinct_flat same_id low_tag by_low (pairs_above g n) (λ low. tagged_map low_tag low (Pair g low) (λ j. refl) (low + 1) (n - (low + 1)))
    (λ low. distinct_map same_id last_tag by_last (Pair g low) (λ k. refl) (low + 1) (n - (low + 1))) 0 n)
  where
    row_from : (low a m : ℕ) (ys : List KeyId) → TaggedFrom kind_tag 1 ys → TaggedFrom kind_tag 1 (map (Pair g low) (range_with_len a m) ++ ys)
    row_from low a zero ys t = t
    row_from low a (suc m) ys t = (omega arith, row_from low (a + 1) m ys t)

    pairs_from : (k a m : ℕ) → TaggedFrom kind_tag 1 (flat_map (pairs_above g k) (range_with_len a m))
    pairs_from k a zero = tt
    pairs_from k a (suc m) = row_from a (a + 1) (k - (a + 1)) (flat_map (pairs_above g k) (range_with_len (a + 1) m)) (pairs_from k (a + 1) m)

group_tagged : (g n : ℕ) → Tagged group_tag g (group_keys g n)
group_tagged g n =
    tagged_append group_tag g (map (Own g) (range_with_len 0 n)) (flat_map (pairs_above g n) (range_with_len 0 n)) (tagged_map group_tag g (Own g) (λ j. refl) 0 n)
    (tagged_flat group_tag g (pairs_above g n) (λ low. tagged_map group_tag g (Pair g low) (λ j. refl) (low + 1) (n - (low + 1))) 0 n)

pub keys_distinct : (plan : PlanView) → Distinct same_id (plan_keys plan)
unfolding plan_keys
keys_distinct plan =
    distinct_flat same_id group_tag by_group (λ g. group_keys g (size plan.groups g)) (λ g. group_tagged g (size plan.groups g)) (λ g. group_distinct g (size plan.groups g)) 0 (length plan.groups)

-- ---- all keys of the plan

same_self : (which : KeyId) → same_id which which ≡ true
same_self (Own g i) = grind (arith, nat_tests)
same_self (Pair g low high) = grind (arith, nat_tests)

in_group : (plan : PlanView) (which : KeyId) → is_key plan which ≡ true → list_any (same_id which) (group_keys (group_tag which) (size plan.groups (group_tag which))) ≡ true
in_group plan (Own g i) is =
    let n = size plan.groups g in
    let within : i < n = grind (arith, nat_tests, is) in
    any_append_left (same_id (Own g i)) (map (Own g) (range_with_len 0 n)) (flat_map (pairs_above g n) (range_with_len 0 n))
    (any_map (same_id (Own g i)) (Own g) 0 n i (omega arith) (omega arith) (same_self (Own g i)))
in_group plan (Pair g low high) is =
    let n = size plan.groups g in
    let order : low < high = grind (arith, nat_tests, is) in
    let within : high < n = grind (arith, nat_tests, is) in
    any_append_right (same_id (Pair g low high)) (map (Own g) (range_with_len 0 n)) (flat_map (pairs_above g n) (range_with_len 0 n))
    (any_flat (same_id (Pair g low high)) (pairs_above g n) 0 n low (omega arith) (omega arith)
    (any_map (same_id (Pair g low high)) (Pair g low) (low + 1) (n - (low + 1)) high (omega arith) (omega arith) (same_self (Pair g low high))))

has_group : (plan : PlanView) (which : KeyId) → is_key plan which ≡ true → group_tag which < length plan.groups
has_group plan (Own g i) is = group-lt plan.groups g i (grind (arith, nat_tests, is))
has_group plan (Pair g low high) is = group-lt plan.groups g high (grind (arith, nat_tests, is))

pub keys_all : (plan : PlanView) (which : KeyId) → is_key plan which ≡ true → list_any (same_id which) (plan_keys plan) ≡ true
unfolding plan_keys
keys_all plan which is =
    any_flat (same_id which) (λ g. group_keys g (size plan.groups g)) 0 (length plan.groups) (group_tag which) (omega arith) (omega (arith, has_group plan which is)) (in_group plan which is)

-- ---- and no other

group_only : (plan : PlanView) (g : ℕ) → list_all (is_key plan) (group_keys g (size plan.groups g)) ≡ true
group_only plan g =
    let n = size plan.groups g in
    all_append (is_key plan) (map (Own g) (range_with_len 0 n)) (flat_map (pairs_above g n) (range_with_len 0 n))
    (all_map (is_key plan) (Own g) 0 n (λ k from to. grind (arith, nat_tests, to)))
    (all_flat (is_key plan) (pairs_above g n) 0 n (λ low from to. all_map (is_key plan) (Pair g low) (low + 1) (n - (low + 1)) (λ high above below. grind (arith, nat_tests, above, below))))

pub keys_only : (plan : PlanView) → list_all (is_key plan) (plan_keys plan) ≡ true
unfolding plan_keys
keys_only plan = all_flat (is_key plan) (λ g. group_keys g (size plan.groups g)) 0 (length plan.groups) (λ g from to. group_only plan g)
