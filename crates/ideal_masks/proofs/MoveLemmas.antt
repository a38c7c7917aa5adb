-- The list of moved words is the offsets.
use Rattle.std.proofs.Common.{◌≡◌, ℕ, zero, suc, ◌+◌, ◌-◌, ◌^◌, ◌<◌, ◌≤◌, Bool, true, false, cond, ◌&&◌, List, [], ◌∷◌, ◌++◌, length, refl, sym, ap, ◌∙◌, add-zero, zero-add, ⊎_elim, arith}
use Rattle.std.specs.Prelude.{◌==◌, if◌then◌else◌}
use Rattle.std.specs.List.{sum_by, flat_map, range_with_len, All}
use mathlib.Core.Path.{fun_ext}
use Rattle.std.proofs.Math.Nat.{mod-mod, mod-lt}
use Rattle.std.proofs.lemmas.Bool.{cases_eq, eqb-true}
use Rattle.std.proofs.lemmas.Bool.Decides.{nat_tests}
use Rattle.std.proofs.lemmas.List.Sums.{sum_by-cons, sum_by-append}
use Rattle.std.proofs.lemmas.List.Elements.{All-append, All-from_get_or, All-nil, All-cons}
use Rattle.pair_keys.specs.declared.KeyId.{KeyId}
use Rattle.pair_keys.specs.declared.KeyId.TheVariants.{Own, Pair}
use Rattle.ideal_masks.specs.declared.Offset.{Offset}
use Rattle.missing_round.specs.Words.{word, minus, group}
use Rattle.group_plan.specs.Plans.{PlanView, size}
use Rattle.event_schedule.specs.Tables.{Masks}
use Rattle.ideal_masks.specs.Offsets.{shift, unshift}
use Rattle.ideal_masks.specs.ListTables.{masks_in, mask_table_of}
use Rattle.ideal_masks.specs.Moves.{moved, own_list, pair_list, offset_list, same_id, IsKeyOf, listed, ListIsOffsets}
use Rattle.ideal_masks.proofs.OffsetLemmas.{at, sum_at_range}
use Rattle.event_schedule.proofs.ListLemmas.{sum_by-flat_map, sum_none, tabulate_same}
use Rattle.missing_round.proofs.WordLemmas.{word-add_word}

-- one term alone
sum_one : (f : ℕ → ℕ) (a n i w : ℕ) → a ≤ i → i < a + n → f i ≡ w → ((k : ℕ) → (k ≡ i → ⊥) → f k ≡ 0) → sum_by f (range_with_len a n) ≡ w
sum_one f a n i w above below is none = ap (λ h. sum_by h (range_with_len a n)) (fun_ext term) ∙ sum_at_range i w a n above below
  where
    at_here : (k : ℕ) → k ≡ i → at i w k ≡ w
    at_here k e = grind (arith, nat_tests)

    at_else : (k : ℕ) → (k ≡ i → ⊥) → at i w k ≡ 0
    at_else k ne = grind (arith, nat_tests)

    term : (k : ℕ) → f k ≡ at i w k
    term k = ⊎_elim (λ e. ap f e ∙ is ∙ sym (at_here k e)) (λ ne. none k ne ∙ sym (at_else k ne)) (cases_eq k i)

-- ---- the moves of one key in one round

abbrev pub part : KeyId → ℕ → Offset → ℕ
part id r o = if same_id o.id id && (o.round == r) then o.by else 0

sum_moved : (id k : KeyId) (r q w : ℕ) → sum_by (part id r) (moved k q w) ≡ cond (same_id k id && (q == r)) (word w) 0
sum_moved id k r q w = step (word w == 0) refl
  where
    if_zero : (c : Bool) → cond {A = ℕ} c 0 0 ≡ 0
    if_zero true = refl
    if_zero false = refl

    step : (c : Bool) → (word w == 0) ≡ c → sum_by (part id r) (cond c [] (record { id = k; round = q; by = word w } ∷ [])) ≡ cond (same_id k id && (q == r)) (word w) 0
    step true is = sym (ap (λ z. cond (same_id k id && (q == r)) z 0) (eqb-true (word w) 0 is) ∙ if_zero (same_id k id && (q == r)))
    step false is = sum_by-cons (part id r) (record { id = k; round = q; by = word w }) [] ∙ add-zero (cond (same_id k id && (q == r)) (word w) 0)

abbrev pub own_sum : Masks → KeyId → ℕ → ℕ → ℕ → ℕ → ℕ
own_sum o id r n h q = sum_by (λ i. cond (same_id (Own h i) id && (q == r)) (word (o.own h q i)) 0) (group n)

abbrev pub pair_row : Masks → KeyId → ℕ → ℕ → ℕ → ℕ → ℕ → ℕ
pair_row o id r n h q i = sum_by (λ j. cond (same_id (Pair h i j) id && (q == r)) (word (o.pair h q i j)) 0) (range_with_len (i + 1) (n - (i + 1)))

abbrev pub pair_sum : Masks → KeyId → ℕ → ℕ → ℕ → ℕ → ℕ
pair_sum o id r n h q = sum_by (pair_row o id r n h q) (group n)

sum_own_list : (o : Masks) (id : KeyId) (r n h q : ℕ) → sum_by (part id r) (own_list o h q n) ≡ own_sum o id r n h q
sum_own_list o id r n h q =
    sum_by-flat_map (part id r) (λ i. moved (Own h i) q (o.own h q i)) (group n)
    ∙ ap (λ f. sum_by f (group n)) (fun_ext (λ i. sum_moved id (Own h i) r q (o.own h q i)))

sum_pair_list : (o : Masks) (id : KeyId) (r n h q : ℕ) → sum_by (part id r) (pair_list o h q n) ≡ pair_sum o id r n h q
sum_pair_list o id r n h q =
    sum_by-flat_map (part id r) (λ i. flat_map (λ j. moved (Pair h i j) q (o.pair h q i j)) (range_with_len (i + 1) (n - (i + 1)))) (group n)
    ∙ ap (λ f. sum_by f (group n)) (fun_ext (λ i.
    sum_by-flat_map (part id r) (λ j. moved (Pair h i j) q (o.pair h q i j)) (range_with_len (i + 1) (n - (i + 1)))
    ∙ ap (λ f. sum_by f (range_with_len (i + 1) (n - (i + 1)))) (fun_ext (λ j. sum_moved id (Pair h i j) r q (o.pair h q i j)))))

abbrev pub both_sums : Masks → PlanView → KeyId → ℕ → ℕ → ℕ → ℕ
both_sums o plan id r h q = own_sum o id r (size plan.groups h) h q + pair_sum o id r (size plan.groups h) h q

sum_offset_list : (o : Masks) (plan : PlanView) (id : KeyId) (r : ℕ)
    → sum_by (part id r) (offset_list plan o) ≡ sum_by (λ h. sum_by (both_sums o plan id r h) (range_with_len 0 plan.rounds)) (range_with_len 0 (length plan.groups))
sum_offset_list o plan id r =
    sum_by-flat_map (part id r) (λ h. flat_map (λ q. own_list o h q (size plan.groups h) ++ pair_list o h q (size plan.groups h)) (range_with_len 0 plan.rounds)) (range_with_len 0 (length plan.groups))
    ∙ ap (λ f. sum_by f (range_with_len 0 (length plan.groups))) (fun_ext (λ h.
    sum_by-flat_map (part id r) (λ q. own_list o h q (size plan.groups h) ++ pair_list o h q (size plan.groups h)) (range_with_len 0 plan.rounds)
    ∙ ap (λ f. sum_by f (range_with_len 0 plan.rounds)) (fun_ext (λ q.
    sum_by-append (part id r) (own_list o h q (size plan.groups h)) (pair_list o h q (size plan.groups h))
    ∙ ap (λ z. z + sum_by (part id r) (pair_list o h q (size plan.groups h))) (sum_own_list o id r (size plan.groups h) h q)
    ∙ ap (λ z. own_sum o id r (size plan.groups h) h q + z) (sum_pair_list o id r (size plan.groups h) h q)))))

-- one place of two sums
two_sums : (v : ℕ → ℕ → ℕ) (ng nr g r w : ℕ) → g < ng → r < nr → v g r ≡ w → ((h q : ℕ) → (h ≡ g → ⊥) → v h q ≡ 0) → ((h q : ℕ) → (q ≡ r → ⊥) → v h q ≡ 0)
    → sum_by (λ h. sum_by (v h) (range_with_len 0 nr)) (range_with_len 0 ng) ≡ w
two_sums v ng nr g r w g_in r_in is other_group other_round =
    sum_one (λ h. sum_by (v h) (range_with_len 0 nr)) 0 ng g w (omega arith) (omega arith)
    (sum_one (v g) 0 nr r w (omega arith) (omega arith) is (λ q ne. other_round g q ne))
    (λ h ne. sum_none (v h) (λ q. other_group h q ne) (range_with_len 0 nr))

own_off : (g h i k q r w : ℕ) → ((h ≡ g) × (k ≡ i) × (q ≡ r) → ⊥) → cond ((h == g) && (k == i) && (q == r)) w 0 ≡ 0
own_off g h i k q r w ne = grind (arith, nat_tests)

own_on : (g i r w : ℕ) → cond ((g == g) && (i == i) && (r == r)) w 0 ≡ w
own_on g i r w = grind (arith, nat_tests)

pair_off : (g h i k j l q r w : ℕ) → ((h ≡ g) × (k ≡ i) × (l ≡ j) × (q ≡ r) → ⊥) → cond ((h == g) && (k == i) && (l == j) && (q == r)) w 0 ≡ 0
pair_off g h i k j l q r w ne = grind (arith, nat_tests)

pair_on : (g i j r w : ℕ) → cond ((g == g) && (i == i) && (j == j) && (r == r)) w 0 ≡ w
pair_on g i j r w = grind (arith, nat_tests)

own_is : (plan : PlanView) (o : Masks) (g r i : ℕ) → g < length plan.groups → r < plan.rounds → i < size plan.groups g
    → sum_by (part (Own g i) r) (offset_list plan o) ≡ word (o.own g r i)
own_is plan o g r i g_in r_in i_in =
    sum_offset_list o plan (Own g i) r
    ∙ two_sums (both_sums o plan (Own g i) r) (length plan.groups) plan.rounds g r (word (o.own g r i)) g_in r_in
    (ap (λ z. z + pair_sum o (Own g i) r (size plan.groups g) g r)
    (sum_one (λ k. cond ((g == g) && (k == i) && (r == r)) (word (o.own g r k)) 0) 0 (size plan.groups g) i (word (o.own g r i)) (omega arith) (omega arith) (own_on g i r (word (o.own g r i)))
    (λ k ne. own_off g g i k r r (word (o.own g r k)) (λ e. ne e.1)))
    ∙ ap (λ z. word (o.own g r i) + z) (no_pairs g r) ∙ add-zero (word (o.own g r i)))
    (λ h q ne. nothing h q (λ e. ne e.0))
    (λ h q ne. nothing h q (λ e. ne e.1))
  where
    no_pairs : (h q : ℕ) → pair_sum o (Own g i) r (size plan.groups h) h q ≡ 0
    no_pairs h q = sum_none _ (λ k. sum_none _ (λ l. refl) (range_with_len (k + 1) (size plan.groups h - (k + 1)))) (group (size plan.groups h))

    nothing : (h q : ℕ) → ((h ≡ g) × (q ≡ r) → ⊥) → both_sums o plan (Own g i) r h q ≡ 0
    nothing h q ne =
        ap (λ z. z + pair_sum o (Own g i) r (size plan.groups h) h q) (sum_none _ (λ k. own_off g h i k q r (word (o.own h q k)) (λ e. ne (e.0, e.2))) (group (size plan.groups h)))
        ∙ zero-add (pair_sum o (Own g i) r (size plan.groups h) h q) ∙ no_pairs h q

pair_is : (plan : PlanView) (o : Masks) (g r i j : ℕ) → g < length plan.groups → r < plan.rounds → i < j → j < size plan.groups g
    → sum_by (part (Pair g i j) r) (offset_list plan o) ≡ word (o.pair g r i j)
pair_is plan o g r i j g_in r_in above j_in =
    sum_offset_list o plan (Pair g i j) r
    ∙ two_sums (both_sums o plan (Pair g i j) r) (length plan.groups) plan.rounds g r (word (o.pair g r i j)) g_in r_in
    (ap (λ z. z + pair_sum o (Pair g i j) r (size plan.groups g) g r) (no_owns g r)
    ∙ zero-add (pair_sum o (Pair g i j) r (size plan.groups g) g r)
    ∙ sum_one (pair_row o (Pair g i j) r (size plan.groups g) g r) 0 (size plan.groups g) i (word (o.pair g r i j)) (omega arith) (omega arith)
    (sum_one (λ l. cond ((g == g) && (i == i) && (l == j) && (r == r)) (word (o.pair g r i l)) 0) (i + 1) (size plan.groups g - (i + 1)) j (word (o.pair g r i j)) (omega arith) (omega arith) (pair_on g i j r (word (o.pair g r i j)))
    (λ l ne. pair_off g g i i j l r r (word (o.pair g r i l)) (λ e. ne e.2)))
    (λ k ne. sum_none _ (λ l. pair_off g g i k j l r r (word (o.pair g r k l)) (λ e. ne e.1)) (range_with_len (k + 1) (size plan.groups g - (k + 1)))))
    (λ h q ne. nothing h q (λ e. ne e.0))
    (λ h q ne. nothing h q (λ e. ne e.1))
  where
    no_owns : (h q : ℕ) → own_sum o (Pair g i j) r (size plan.groups h) h q ≡ 0
    no_owns h q = sum_none _ (λ k. refl) (group (size plan.groups h))

    nothing : (h q : ℕ) → ((h ≡ g) × (q ≡ r) → ⊥) → both_sums o plan (Pair g i j) r h q ≡ 0
    nothing h q ne =
        ap (λ z. z + pair_sum o (Pair g i j) r (size plan.groups h) h q) (no_owns h q)
        ∙ zero-add (pair_sum o (Pair g i j) r (size plan.groups h) h q)
        ∙ sum_none _ (λ k. sum_none _ (λ l. pair_off g h i k j l q r (word (o.pair h q k l)) (λ e. ne (e.0, e.3))) (range_with_len (k + 1) (size plan.groups h - (k + 1)))) (group (size plan.groups h))

-- ---- no word is 0

abbrev pub IsMove : Offset → Type 0
IsMove m = (0 < m.by) × (m.by < 2 ^ 64)

all_none : All IsMove []
all_none = All-from_get_or IsMove [] (record { id = Own 0 0; round = 0; by = 0 }) (λ i below. absurd (omega arith))

All-flat_map : {X : Type 0} (h : X → List Offset) → ((x : X) → All IsMove (h x)) → (xs : List X) → All IsMove (flat_map h xs)
All-flat_map h all [] = all_none
All-flat_map h all (x ∷ xs) = All-append IsMove (h x) (flat_map h xs) (all x) (All-flat_map h all xs)

all_moved : (id : KeyId) (r w : ℕ) → All IsMove (moved id r w)
all_moved id r w = step (word w == 0) refl
  where
    step : (c : Bool) → (word w == 0) ≡ c → All IsMove (cond c [] (record { id = id; round = r; by = word w } ∷ []))
    step true is = all_none
    step false is = All-from_get_or IsMove (record { id = id; round = r; by = word w } ∷ []) (record { id = id; round = r; by = word w })
        (λ i below. let first : i ≡ 0 = omega arith in rw first (grind (arith, nat_tests, is), mod-lt w (omega arith)))

-- ---- the places are of the plan

pub all_range : (P : Offset → Type 0) (h : ℕ → List Offset) (n a : ℕ) → ((i : ℕ) → a ≤ i → i < a + n → All P (h i)) → All P (flat_map h (range_with_len a n))
all_range P h zero a each = All-nil P
all_range P h (suc n) a each =
    All-append P (h a) (flat_map h (range_with_len (a + 1) n)) (each a (omega arith) (omega arith)) (all_range P h n (a + 1) (λ i above below. each i (omega arith) (omega arith)))

pub all_moved_at : (P : Offset → Type 0) (id : KeyId) (r w : ℕ) → P (record { id = id; round = r; by = word w }) → All P (moved id r w)
all_moved_at P id r w is = step (word w == 0)
  where
    step : (c : Bool) → All P (cond c [] (record { id = id; round = r; by = word w } ∷ []))
    step true = All-nil P
    step false = All-cons P (record { id = id; round = r; by = word w }) [] is (All-nil P)

abbrev pub IsPlaceOf : PlanView → Offset → Type 0
IsPlaceOf plan m = IsKeyOf plan m.id × (m.round < plan.rounds)

places_are : (plan : PlanView) (o : Masks) → All (IsPlaceOf plan) (offset_list plan o)
places_are plan o =
    all_range (IsPlaceOf plan) _ (length plan.groups) 0 (λ g _ g_in. all_range (IsPlaceOf plan) _ plan.rounds 0 (λ r _ r_in.
    All-append (IsPlaceOf plan) (own_list o g r (size plan.groups g)) (pair_list o g r (size plan.groups g))
    (all_range (IsPlaceOf plan) _ (size plan.groups g) 0 (λ i _ i_in. all_moved_at (IsPlaceOf plan) (Own g i) r (o.own g r i) ((omega arith, omega arith), omega arith)))
    (all_range (IsPlaceOf plan) _ (size plan.groups g) 0 (λ i _ i_in. all_range (IsPlaceOf plan) _ (size plan.groups g - (i + 1)) (i + 1) (λ j above j_in.
    all_moved_at (IsPlaceOf plan) (Pair g i j) r (o.pair g r i j) ((omega arith, omega arith, omega arith), omega arith))))))

table_same : (plan : PlanView) (m k : Masks)
    → ((g r i : ℕ) → g < length plan.groups → r < plan.rounds → i < size plan.groups g → m.own g r i ≡ k.own g r i)
    → ((g r i j : ℕ) → g < length plan.groups → r < plan.rounds → i < j → j < size plan.groups g → m.pair g r i j ≡ k.pair g r i j)
    → mask_table_of plan m ≡ mask_table_of plan k
table_same plan m k owns pairs =
    let own_lists : (mask_table_of plan m).own ≡ (mask_table_of plan k).own
    = tabulate_same (length plan.groups) 0 _ _ (λ g _ g_in. tabulate_same plan.rounds 0 _ _ (λ r _ r_in. tabulate_same (size plan.groups g) 0 _ _ (λ i _ i_in. owns g r i (omega arith) (omega arith) (omega arith)))) in
    let pair_lists : (mask_table_of plan m).pair ≡ (mask_table_of plan k).pair
    = tabulate_same (length plan.groups) 0 _ _ (λ g _ g_in. tabulate_same plan.rounds 0 _ _ (λ r _ r_in. tabulate_same (size plan.groups g) 0 _ _ (λ i _ i_in.
    tabulate_same (size plan.groups g - suc i) 0 _ _ (λ l _ l_in. pairs g r i (suc i + l) (omega arith) (omega arith) (omega arith) (omega arith))))) in
    λ z. record { own = own_lists z; pair = pair_lists z }

minus-word : (a : ℕ) → minus (word a) ≡ minus a
minus-word a = ap (λ z. 2 ^ 64 - z) (mod-mod a (2 ^ 64))

pub list_is : (plan : PlanView) (o : Masks) → ListIsOffsets plan o
list_is plan o = record {
  own = own_is plan o;
  pair = pair_is plan o;
  places = places_are plan o;
  nonzero =
      All-flat_map _ (λ g. All-flat_map _ (λ r.
      All-append IsMove (own_list o g r (size plan.groups g)) (pair_list o g r (size plan.groups g))
      (All-flat_map _ (λ i. all_moved (Own g i) r (o.own g r i)) (group (size plan.groups g)))
      (All-flat_map _ (λ i. All-flat_map _ (λ j. all_moved (Pair g i j) r (o.pair g r i j)) (range_with_len (i + 1) (size plan.groups g - (i + 1)))) (group (size plan.groups g)))) (range_with_len 0 plan.rounds)) (range_with_len 0 (length plan.groups));
  shifted = λ m. table_same plan (shift (listed (offset_list plan o)) (masks_in m)) (shift o (masks_in m))
      (λ g r i g_in r_in i_in. ap (λ z. word ((masks_in m).own g r i + z)) (own_is plan o g r i g_in r_in i_in) ∙ word-add_word ((masks_in m).own g r i) (o.own g r i))
      (λ g r i j g_in r_in above j_in. ap (λ z. word ((masks_in m).pair g r i j + z)) (pair_is plan o g r i j g_in r_in above j_in) ∙ word-add_word ((masks_in m).pair g r i j) (o.pair g r i j));
  unshifted = λ m. table_same plan (unshift (listed (offset_list plan o)) (masks_in m)) (unshift o (masks_in m))
      (λ g r i g_in r_in i_in. ap (λ z. word ((masks_in m).own g r i + minus z)) (own_is plan o g r i g_in r_in i_in) ∙ ap (λ z. word ((masks_in m).own g r i + z)) (minus-word (o.own g r i)))
      (λ g r i j g_in r_in above j_in. ap (λ z. word ((masks_in m).pair g r i j + minus z)) (pair_is plan o g r i j g_in r_in above j_in) ∙ ap (λ z. word ((masks_in m).pair g r i j + z)) (minus-word (o.pair g r i j)));
}
