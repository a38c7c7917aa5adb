-- The list of the moved words ascends.
use Rattle.std.proofs.Common.{◌≡◌, ℕ, zero, suc, ◌+◌, ◌-◌, ◌<◌, Bool, true, false, cond, List, [], ◌∷◌, ◌++◌, length, refl, ap, arith}
use Rattle.std.specs.Prelude.{◌==◌}
use Rattle.std.specs.List.{All, flat_map, range_with_len}
use Rattle.std.proofs.lemmas.Bool.Decides.{nat_tests}
use Rattle.std.proofs.lemmas.List.Concat.{flat_map-cons}
use Rattle.std.proofs.lemmas.List.Elements.{All-append, All-head, All-tail, All-nil, All-cons}
use Rattle.missing_round.specs.Words.{word}
use Rattle.group_plan.specs.Plans.{PlanView, size}
use Rattle.pair_keys.specs.declared.KeyId.{KeyId}
use Rattle.pair_keys.specs.declared.KeyId.TheVariants.{Own, Pair}
use Rattle.event_schedule.specs.Tables.{Masks}
use Rattle.ideal_masks.specs.declared.Offset.{Offset}
use Rattle.ideal_masks.specs.Moves.{moved, own_list, pair_list, offset_list, IsKeyOf}
use Rattle.ideal_masks.specs.Order.{key_group, is_before, is_lower_first, IsAscending, AreMoves}
use Rattle.ideal_masks.proofs.MoveLemmas.{all_range, all_moved_at, list_is}

all-map : (P Q : Offset → Type 0) → ((m : Offset) → P m → Q m) → (xs : List Offset) → All P xs → All Q xs
all-map P Q each [] all = All-nil Q
all-map P Q each (x ∷ xs) all = All-cons Q x xs (each x (All-head P x xs all)) (all-map P Q each xs (All-tail P x xs all))

-- two lists, all of the first before all of the second
pub ascending-append : (P Q : Offset → Type 0) → ((a b : Offset) → P a → Q b → is_before a b ≡ true) → (xs ys : List Offset) → All P xs → All Q ys → IsAscending xs → IsAscending ys → IsAscending (xs ++ ys)
ascending-append P Q cross [] ys all_xs all_ys one two = two
ascending-append P Q cross (x ∷ xs) ys all_xs all_ys one two = (
  All-append (λ later. is_before x later ≡ true) xs ys one.0 (all-map Q (λ later. is_before x later ≡ true) (λ m is. cross x m (All-head P x xs all_xs) is) ys all_ys),
  ascending-append P Q cross xs ys (All-tail P x xs all_xs) all_ys one.1 two,
)

-- the parts of a range, each before the next
ascending-flat : (h : ℕ → List Offset) (P : ℕ → Offset → Type 0) → ((i : ℕ) → All (P i) (h i)) → ((i : ℕ) → IsAscending (h i)) → ((i k : ℕ) (a b : Offset) → i < k → P i a → P k b → is_before a b ≡ true)
    → (a n : ℕ) → IsAscending (flat_map h (range_with_len a n))
ascending-flat h P each parts cross a zero = tt
ascending-flat h P each parts cross a (suc n) =
    rw (flat_map-cons h a (range_with_len (a + 1) n))
    (ascending-append (P a) (λ m. (k : ℕ) × (a < k) × P k m) (λ x y is later. cross a later.0 x y later.1 is later.2) (h a) (flat_map h (range_with_len (a + 1) n)) (each a)
    (all_range (λ m. (k : ℕ) × (a < k) × P k m) h n (a + 1) (λ k low high. all-map (P k) (λ m. (j : ℕ) × (a < j) × P j m) (λ m is. (k, omega arith, is)) (h k) (each k)))
    (parts a) (ascending-flat h P each parts cross (a + 1) n))

-- ---- one word

abbrev pub IsAt : KeyId → ℕ → Offset → Type 0
IsAt id r m = (m.id ≡ id) × (m.round ≡ r)

moved-at : (id : KeyId) (r w : ℕ) → All (IsAt id r) (moved id r w)
moved-at id r w = all_moved_at (IsAt id r) id r w (refl, refl)

moved-ascends : (id : KeyId) (r w : ℕ) → IsAscending (moved id r w)
moved-ascends id r w = step (word w == 0)
  where
    step : (c : Bool) → IsAscending (cond c [] (record { id = id; round = r; by = word w } ∷ []))
    step true = tt
    step false = (All-nil (λ later. is_before (record { id = id; round = r; by = word w }) later ≡ true), tt)

-- ---- the order of two keys

own-own : (g r i k by to : ℕ) → i < k → is_before (record { id = Own g i; round = r; by = by }) (record { id = Own g k; round = r; by = to }) ≡ true
own-own g r i k by to lt = grind (arith, nat_tests, lt)

own-pair : (g r i k l by to : ℕ) → is_before (record { id = Own g i; round = r; by = by }) (record { id = Pair g k l; round = r; by = to }) ≡ true
own-pair g r i k l by to = grind (arith, nat_tests)

pair-low : (g r i j k l by to : ℕ) → i < k → is_before (record { id = Pair g i j; round = r; by = by }) (record { id = Pair g k l; round = r; by = to }) ≡ true
pair-low g r i j k l by to lt = grind (arith, nat_tests, lt)

pair-high : (g r i j l by to : ℕ) → j < l → is_before (record { id = Pair g i j; round = r; by = by }) (record { id = Pair g i l; round = r; by = to }) ≡ true
pair-high g r i j l by to lt = grind (arith, nat_tests, lt)

later-round : (a b : Offset) (g r q : ℕ) → key_group a.id ≡ g → key_group b.id ≡ g → a.round ≡ r → b.round ≡ q → r < q → is_before a b ≡ true
later-round a b g r q ga gb ra rb lt = grind (arith, nat_tests, ga, gb, ra, rb, lt)

later-group : (a b : Offset) (g h : ℕ) → key_group a.id ≡ g → key_group b.id ≡ h → g < h → is_before a b ≡ true
later-group a b g h ga gb lt = grind (arith, nat_tests, ga, gb, lt)

-- ---- the words of a round

owns-ascend : (o : Masks) (g r n : ℕ) → IsAscending (own_list o g r n)
owns-ascend o g r n =
    ascending-flat (λ i. moved (Own g i) r (o.own g r i)) (λ i. IsAt (Own g i) r) (λ i. moved-at (Own g i) r (o.own g r i)) (λ i. moved-ascends (Own g i) r (o.own g r i))
    (λ i k a b lt is at. rw (is.0, is.1, at.0, at.1) (own-own g r i k a.by b.by lt)) 0 n

abbrev pub IsLow : ℕ → ℕ → ℕ → Offset → Type 0
IsLow g r i m = (j : ℕ) × IsAt (Pair g i j) r m

row-ascends : (o : Masks) (g r n i : ℕ) → IsAscending (flat_map (λ j. moved (Pair g i j) r (o.pair g r i j)) (range_with_len (i + 1) (n - (i + 1))))
row-ascends o g r n i =
    ascending-flat (λ j. moved (Pair g i j) r (o.pair g r i j)) (λ j. IsAt (Pair g i j) r) (λ j. moved-at (Pair g i j) r (o.pair g r i j)) (λ j. moved-ascends (Pair g i j) r (o.pair g r i j))
    (λ j l a b lt is at. rw (is.0, is.1, at.0, at.1) (pair-high g r i j l a.by b.by lt)) (i + 1) (n - (i + 1))

row-low : (o : Masks) (g r n i : ℕ) → All (IsLow g r i) (flat_map (λ j. moved (Pair g i j) r (o.pair g r i j)) (range_with_len (i + 1) (n - (i + 1))))
row-low o g r n i =
    all_range (IsLow g r i) (λ j. moved (Pair g i j) r (o.pair g r i j)) (n - (i + 1)) (i + 1) (λ j _ _. all_moved_at (IsLow g r i) (Pair g i j) r (o.pair g r i j) (j, (refl, refl)))

pairs-ascend : (o : Masks) (g r n : ℕ) → IsAscending (pair_list o g r n)
pairs-ascend o g r n =
    ascending-flat (λ i. flat_map (λ j. moved (Pair g i j) r (o.pair g r i j)) (range_with_len (i + 1) (n - (i + 1)))) (λ i. IsLow g r i) (row-low o g r n) (row-ascends o g r n)
    (λ i k a b lt is at. rw (is.1.0, is.1.1, at.1.0, at.1.1) (pair-low g r i is.0 k at.0 a.by b.by lt)) 0 n

abbrev pub IsOwn : ℕ → ℕ → Offset → Type 0
IsOwn g r m = (i : ℕ) × IsAt (Own g i) r m

abbrev pub IsPair : ℕ → ℕ → Offset → Type 0
IsPair g r m = (i : ℕ) × IsLow g r i m

owns-own : (o : Masks) (g r n : ℕ) → All (IsOwn g r) (own_list o g r n)
owns-own o g r n = all_range (IsOwn g r) (λ i. moved (Own g i) r (o.own g r i)) n 0 (λ i _ _. all_moved_at (IsOwn g r) (Own g i) r (o.own g r i) (i, (refl, refl)))

pairs-pair : (o : Masks) (g r n : ℕ) → All (IsPair g r) (pair_list o g r n)
pairs-pair o g r n =
    all_range (IsPair g r) (λ i. flat_map (λ j. moved (Pair g i j) r (o.pair g r i j)) (range_with_len (i + 1) (n - (i + 1)))) n 0
    (λ i _ _. all-map (IsLow g r i) (IsPair g r) (λ m is. (i, is)) (flat_map (λ j. moved (Pair g i j) r (o.pair g r i j)) (range_with_len (i + 1) (n - (i + 1)))) (row-low o g r n i))

round-ascends : (o : Masks) (g n r : ℕ) → IsAscending (own_list o g r n ++ pair_list o g r n)
round-ascends o g n r =
    ascending-append (IsOwn g r) (IsPair g r) (λ a b is at. rw (is.1.0, is.1.1, at.1.1.0, at.1.1.1) (own-pair g r is.0 at.0 at.1.0 a.by b.by))
    (own_list o g r n) (pair_list o g r n) (owns-own o g r n) (pairs-pair o g r n) (owns-ascend o g r n) (pairs-ascend o g r n)

-- ---- rounds and groups

abbrev pub IsIn : ℕ → ℕ → Offset → Type 0
IsIn g r m = (key_group m.id ≡ g) × (m.round ≡ r)

round-in : (o : Masks) (g n r : ℕ) → All (IsIn g r) (own_list o g r n ++ pair_list o g r n)
round-in o g n r =
    All-append (IsIn g r) (own_list o g r n) (pair_list o g r n)
    (all-map (IsOwn g r) (IsIn g r) (λ m is. (ap key_group is.1.0, is.1.1)) (own_list o g r n) (owns-own o g r n))
    (all-map (IsPair g r) (IsIn g r) (λ m is. (ap key_group is.1.1.0, is.1.1.1)) (pair_list o g r n) (pairs-pair o g r n))

group-ascends : (o : Masks) (rounds g n : ℕ) → IsAscending (flat_map (λ r. own_list o g r n ++ pair_list o g r n) (range_with_len 0 rounds))
group-ascends o rounds g n =
    ascending-flat (λ r. own_list o g r n ++ pair_list o g r n) (λ r. IsIn g r) (round-in o g n) (round-ascends o g n)
    (λ r q a b lt is at. later-round a b g r q is.0 at.0 is.1 at.1 lt) 0 rounds

group-in : (o : Masks) (rounds g n : ℕ) → All (λ m. key_group m.id ≡ g) (flat_map (λ r. own_list o g r n ++ pair_list o g r n) (range_with_len 0 rounds))
group-in o rounds g n =
    all_range (λ m. key_group m.id ≡ g) (λ r. own_list o g r n ++ pair_list o g r n) rounds 0
    (λ r _ _. all-map (IsIn g r) (λ m. key_group m.id ≡ g) (λ m is. is.0) (own_list o g r n ++ pair_list o g r n) (round-in o g n r))

pub list-ascends : (plan : PlanView) (o : Masks) → IsAscending (offset_list plan o)
list-ascends plan o =
    ascending-flat (λ g. flat_map (λ r. own_list o g r (size plan.groups g) ++ pair_list o g r (size plan.groups g)) (range_with_len 0 plan.rounds)) (λ g m. key_group m.id ≡ g)
    (λ g. group-in o plan.rounds g (size plan.groups g)) (λ g. group-ascends o plan.rounds g (size plan.groups g))
    (λ g h a b lt is at. later-group a b g h is at lt) 0 (length plan.groups)

-- a key of a plan has the lower meter first
key-lower_first : (plan : PlanView) (id : KeyId) → IsKeyOf plan id → is_lower_first id ≡ true
key-lower_first plan (Own g i) is = refl
key-lower_first plan (Pair g i j) is = grind (arith, nat_tests, is.1)

pub list-moves : (plan : PlanView) (o : Masks) → AreMoves (offset_list plan o)
list-moves plan o = record {
  ascending = list-ascends plan o;
  nonzero = (list_is plan o).nonzero;
  pairs = all-map (λ m. IsKeyOf plan m.id × (m.round < plan.rounds)) (λ m. is_lower_first m.id ≡ true) (λ m is. key-lower_first plan m.id is.0) (offset_list plan o) (list_is plan o).places;
}
