-- The first key that is missing, found in the list of all keys.
use Rattle.std.proofs.Common.{◌≡◌, ◌<◌, ◌≤◌, ◌+◌, ◌-◌, ℕ, zero, suc, Bool, true, false, List, [], ◌∷◌, ◌++◌, length, map, Option, Some, None, refl, ap, arith, inl, inr, ◌∙◌, if◌then◌else◌}
use Rattle.std.proofs.lemmas.Bool.Decides.{nat_tests}
use Rattle.std.proofs.lemmas.Bool.{cases_eq}
use Rattle.std.specs.List.{find, flat_map, range_with_len}
use Rattle.std.specs.Option.{is_none, is_some}
use Rattle.group_plan.specs.Plans.{size}
use Rattle.group_plan.proofs.MeterNumbers.{group-lt}
use Rattle.pair_keys.specs.Ids.{comes_before}
use Rattle.pair_keys.specs.Keys.{IsComplete, IsFirstMissing, Keys}
use Rattle.pair_keys.specs.declared.KeyId.{KeyId}
use Rattle.pair_keys.specs.declared.KeyId.TheVariants.{Own, Pair}
use Rattle.plan_files.specs.MissingKeys.{first_missing, group_keys, pairs_above, plan_keys}

-- ---- a search in lists

find-append-none : {X : Type 0} (test : X → Bool) (xs ys : List X) → find test xs ≡ None → find test (xs ++ ys) ≡ find test ys
find-append-none test [] ys h = refl
find-append-none test (x ∷ xs) ys h = later (test x) (find-append-none test xs ys) h
  where
    later : (b : Bool) → (find test xs ≡ None → find test (xs ++ ys) ≡ find test ys) → (if b then Some x else find test xs) ≡ None → (if b then Some x else find test (xs ++ ys)) ≡ find test ys
    later true more h = cc
    later false more h = more h

find-append-some : {X : Type 0} (test : X → Bool) (xs ys : List X) (y : X) → find test xs ≡ Some y → find test (xs ++ ys) ≡ Some y
find-append-some test [] ys y h = cc
find-append-some test (x ∷ xs) ys y h = later (test x) (find-append-some test xs ys y) h
  where
    later : (b : Bool) → (find test xs ≡ Some y → find test (xs ++ ys) ≡ Some y) → (if b then Some x else find test xs) ≡ Some y → (if b then Some x else find test (xs ++ ys)) ≡ Some y
    later true more h = h
    later false more h = more h

-- nothing is found in the lists of the n numbers from a on
find_in_none : {X : Type 0} (test : X → Bool) (f : ℕ → List X) (a n : ℕ) → ((k : ℕ) → a ≤ k → k < a + n → find test (f k) ≡ None) → find test (flat_map f (range_with_len a n)) ≡ None
find_in_none test f a zero none = refl
find_in_none test f a (suc n) none = find-append-none test (f a) (flat_map f (range_with_len (a + 1) n)) (none a (omega arith) (omega arith))
    ∙ find_in_none test f (a + 1) n (λ k from to. none k (omega arith) (omega arith))

-- the first that is found is in the list of k
find_in_some : {X : Type 0} (test : X → Bool) (f : ℕ → List X) (a n k : ℕ) (x : X) → a ≤ k → k < a + n → ((j : ℕ) → a ≤ j → j < k → find test (f j) ≡ None) → find test (f k) ≡ Some x
    → find test (flat_map f (range_with_len a n)) ≡ Some x
find_in_some test f a zero k x from to none some = absurd (omega arith)
find_in_some test f a (suc n) k x from to none some = elim (cases_eq a k) [
  | inl same ↦ find-append-some test (f a) (flat_map f (range_with_len (a + 1) n)) x (ap (λ j. find test (f j)) same ∙ some)
  | inr other ↦ find-append-none test (f a) (flat_map f (range_with_len (a + 1) n)) (none a (omega arith) (omega arith))
      ∙ find_in_some test f (a + 1) n k x (omega arith) (omega arith) (λ j from to. none j (omega arith) to) some
]

-- the same among single values
find_at_none : {X : Type 0} (test : X → Bool) (f : ℕ → X) (a n : ℕ) → ((k : ℕ) → a ≤ k → k < a + n → test (f k) ≡ false) → find test (map f (range_with_len a n)) ≡ None
find_at_none test f a zero none = refl
find_at_none test f a (suc n) none = rw (none a (omega arith) (omega arith)) (find_at_none test f (a + 1) n (λ k from to. none k (omega arith) (omega arith)))

find_at_some : {X : Type 0} (test : X → Bool) (f : ℕ → X) (a n k : ℕ) → a ≤ k → k < a + n → ((j : ℕ) → a ≤ j → j < k → test (f j) ≡ false) → test (f k) ≡ true
    → find test (map f (range_with_len a n)) ≡ Some (f k)
find_at_some test f a zero k from to none some = absurd (omega arith)
find_at_some test f a (suc n) k from to none some = elim (cases_eq a k) [
  | inl same ↦ rw (ap (λ j. test (f j)) same ∙ some) (ap (λ j. Some (f j)) same)
  | inr other ↦ rw (none a (omega arith) (omega arith)) (find_at_some test f (a + 1) n k (omega arith) (omega arith) (λ j from to. none j (omega arith) to) some)
]

-- ---- the keys of a plan

-- whether a key is missing
abbrev lacks : Keys → KeyId → Bool
lacks keys which = is_none (keys.key which)

there : (o : Option (List ℕ)) → is_some o ≡ true → is_none o ≡ false
there o h = rw h refl

-- the keys of a group of which none is missing
group_none : (keys : Keys) (g : ℕ) → ((i : ℕ) → i < size keys.plan.groups g → is_some (keys.key (Own g i)) ≡ true)
    → ((low high : ℕ) → low < high → high < size keys.plan.groups g → is_some (keys.key (Pair g low high)) ≡ true)
    → find (lacks keys) (group_keys g (size keys.plan.groups g)) ≡ None
group_none keys g owns pairs =
    let n = size keys.plan.groups g in
    find-append-none (lacks keys) (map (Own g) (range_with_len 0 n)) (flat_map (pairs_above g n) (range_with_len 0 n))
    (find_at_none (lacks keys) (Own g) 0 n (λ k from to. there (keys.key (Own g k)) (owns k (omega arith))))
    ∙ find_in_none (lacks keys) (pairs_above g n) 0 n (λ low from to. find_at_none (lacks keys) (Pair g low) (low + 1) (n - (low + 1)) (λ high above below. there (keys.key (Pair g low high)) (pairs low high (omega arith) (omega arith))))

pub none_missing : (keys : Keys) → IsComplete keys → first_missing keys ≡ None
unfolding first_missing plan_keys
none_missing keys whole =
    find_in_none (lacks keys) (λ g. group_keys g (size keys.plan.groups g)) 0 (length keys.plan.groups)
    (λ g from to. group_none keys g (λ i h. whole (Own g i) (grind (arith, nat_tests))) (λ low high h k. whole (Pair g low high) (grind (arith, nat_tests))))

-- groups before that of a missing key
groups_before : (keys : Keys) (g h : ℕ) (which : KeyId) → IsFirstMissing keys which
    → ((i : ℕ) → comes_before (Own h i) which ≡ true) → ((low high : ℕ) → comes_before (Pair h low high) which ≡ true)
    → find (lacks keys) (group_keys h (size keys.plan.groups h)) ≡ None
groups_before keys g h which first owns pairs =
    group_none keys h (λ i within. first.first (Own h i) (grind (arith, nat_tests)) (owns i)) (λ low high order within. first.first (Pair h low high) (grind (arith, nat_tests)) (pairs low high))

lacking : (o : Option (List ℕ)) → o ≡ None → is_none o ≡ true
lacking o h = rw h refl

pub first_is : (keys : Keys) (which : KeyId) → IsFirstMissing keys which → first_missing keys ≡ Some which
unfolding first_missing plan_keys
first_is keys (Own g i) first =
    let n = size keys.plan.groups g in
    let within : i < n = grind (arith, nat_tests, first.of_plan) in
    find_in_some (lacks keys) (λ h. group_keys h (size keys.plan.groups h)) 0 (length keys.plan.groups) g (Own g i) (omega arith) (omega (arith, group-lt keys.plan.groups g i within))
    (λ h from to. groups_before keys g h (Own g i) first (λ j. grind (arith, nat_tests)) (λ low high. grind (arith, nat_tests)))
    (find-append-some (lacks keys) (map (Own g) (range_with_len 0 n)) (flat_map (pairs_above g n) (range_with_len 0 n)) (Own g i)
    (find_at_some (lacks keys) (Own g) 0 n i (omega arith) (omega arith)
    (λ j from to. there (keys.key (Own g j)) (first.first (Own g j) (grind (arith, nat_tests)) (grind (arith, nat_tests)))) (lacking _ first.lacking)))
first_is keys (Pair g low high) first =
    let n = size keys.plan.groups g in
    let order : low < high = grind (arith, nat_tests, first.of_plan) in
    let within : high < n = grind (arith, nat_tests, first.of_plan) in
    find_in_some (lacks keys) (λ h. group_keys h (size keys.plan.groups h)) 0 (length keys.plan.groups) g (Pair g low high) (omega arith) (omega (arith, group-lt keys.plan.groups g high within))
    (λ h from to. groups_before keys g h (Pair g low high) first (λ j. grind (arith, nat_tests)) (λ l k. grind (arith, nat_tests)))
    (find-append-none (lacks keys) (map (Own g) (range_with_len 0 n)) (flat_map (pairs_above g n) (range_with_len 0 n))
    (find_at_none (lacks keys) (Own g) 0 n (λ j from to. there (keys.key (Own g j)) (first.first (Own g j) (grind (arith, nat_tests)) (grind (arith, nat_tests)))))
    ∙ find_in_some (lacks keys) (pairs_above g n) 0 n low (Pair g low high) (omega arith) (omega arith)
    (λ l from to. find_at_none (lacks keys) (Pair g l) (l + 1) (n - (l + 1)) (λ k above below. there (keys.key (Pair g l k)) (first.first (Pair g l k) (grind (arith, nat_tests)) (grind (arith, nat_tests)))))
    (find_at_some (lacks keys) (Pair g low) (low + 1) (n - (low + 1)) high (omega arith) (omega arith)
    (λ k above below. there (keys.key (Pair g low k)) (first.first (Pair g low k) (grind (arith, nat_tests)) (grind (arith, nat_tests)))) (lacking _ first.lacking)))
