-- What the two files say is what plan files and readings files may say.
use Rattle.std.proofs.Common.{◌≡◌, ◌∙◌, ◌<◌, ◌≤◌, ◌+◌, ◌*◌, ◌/◌, ◌%◌, ◌^◌, ◌==◌, ◌||◌, nat_le, nat_lt, ℕ, zero, suc, Bool, true, false, List, [], ◌∷◌, length, map, get_or, replicate, Option, Some, None, is_some, refl, sym, ap, arith, codes, decimal, subst, sum_by, if◌then◌else◌}
use Rattle.std.proofs.Math.Nat.{mul_comm, suc-mul}
use Rattle.std.proofs.lemmas.Bool.{and_parts}
use Rattle.std.proofs.lemmas.Bool.Decides.{nat_tests}
use Rattle.std.proofs.lemmas.Fmt.{decimal_by_steps, decimal_injective, length-decimal-le}
use Rattle.std.proofs.lemmas.Iterator.Adapters.{position_from-zero}
use Rattle.std.proofs.lemmas.List.{get_or-replicate}
use Rattle.std.proofs.lemmas.List.Elements.{All-cons, All-nil}
use Rattle.std.proofs.lemmas.List.Sums.{sum_by-cons}
use Rattle.std.proofs.lemmas.Option.{slice_get_past}
use Rattle.std.specs.Int.{w32, to_le_bytes}
use Rattle.std.specs.List.{flat_map, list_all, list_any, position_from, range_with_len}
use Rattle.std.specs.Option.{option_map}
use Rattle.std.specs.Prelude.{position, slice_get}
use Rattle.group_plan.specs.Names.{is_name, is_name_byte}
use Rattle.group_plan.specs.NewPlans.{group_of, whole}
use Rattle.group_plan.specs.Plans.{Group, IsWithinLimits, PlanView, all_meters, all_pairs, floor_of, floor_or, holds, is_member, is_member_of, is_place, pairs, size, span_of}
use Rattle.group_plan.specs.Tables.{IsReadingTable, reading, table_of}
use Rattle.group_plan.proofs.MeterNumbers.{group-lt, in_place}
use Rattle.group_plan.proofs.TableLemmas.{entry-table_of, entry_outside, is_table-table_of}
use Rattle.link_lanes.specs.ArgBytes.{is_arg_byte}
use Rattle.pair_keys.specs.Ids.{same_id}
use Rattle.plan_files.specs.MissingKeys.{plan_keys}
use Rattle.plan_files.specs.PlainRows.{is_plain_byte}
use Rattle.plan_files.specs.SpelledFiles.{AreInRows, AreKeysOf, IsKey, IsLaneOf, IsPlanFile, first_lane_row}
use Rattle.plan_files.proofs.DistinctLemmas.{all_append, all_flat, both_true}
use Rattle.plan_files.proofs.KeyOrder.{keys_all, keys_only}
use Rattle.plan_files.proofs.PlainTexts.{plain_decimal}
use Rattle.plan_files.proofs.SpelledKeys.{not_any}
use Rattle.rand_chacha.specs.ChaCha.{ChaCha}
use Rattle.load_maker.specs.Drawing.{key_drawn, reading_by, stream_at, word_ahead}
use Rattle.load_maker.specs.Made.{group_name, made_file, made_group, made_key, made_keys, made_lane, made_plan, made_reading, made_readings}
use Rattle.load_maker.proofs.MadePlan.{span_is}
use Rattle.load_maker.proofs.MadeReadings.{group_at, group_count, made_name, made_rounds, made_size}
use Rattle.load_maker.proofs.SizeLemmas.{Limits}

-- ---- names

digit_name : (d : ℕ) → d < 10 → list_all is_name_byte ((48 + d) ∷ []) ≡ true
digit_name d few = let t : is_name_byte (48 + d) ≡ true = grind (arith, nat_tests) in rw t refl

decimal_name : (n : ℕ) → n < 2 ^ 64 → list_all is_name_byte (decimal n) ≡ true
decimal_name n small = decimal_by_steps (λ m ds. list_all is_name_byte ds ≡ true)
    (λ m few. digit_name m few) (λ m ds big ih. all_append is_name_byte ds ((48 + m % 10) ∷ []) ih (digit_name (m % 10) (omega arith))) n small

named : (g : ℕ) → g < 256 → is_name (group_name g) ≡ true
named g few =
    let short = length-decimal-le 3 g (omega arith) (omega (arith, few)) (omega (arith, few)) in
    let bytes : list_all is_name_byte (group_name g) ≡ true = both_true _ _ refl (decimal_name g (omega (arith, few))) in
    let some : nat_le 1 (length (group_name g)) ≡ true = grind (arith, nat_tests) in
    let long : nat_le (length (group_name g)) 16 ≡ true = grind (arith, nat_tests, short) in
    rw (some, long, bytes) refl

abbrev drop_one : List ℕ → List ℕ
drop_one [] = []
drop_one (c ∷ cs) = cs

names_differ : (g h : ℕ) → g < h → h < 256 → ¬ (group_name g ≡ group_name h)
names_differ g h lt few same =
    let equal = decimal_injective g h (omega (arith, lt, few)) (omega (arith, few)) (ap drop_one same) in
    absurd (omega (arith, equal, lt))

-- ---- the plan

floor_is : (groups meters rounds g : ℕ) → g < groups → floor_of (made_plan groups meters rounds).groups g ≡ 2
floor_is groups meters rounds g lt = ap floor_or (group_at groups meters rounds g lt)

past_groups : (groups meters rounds g : ℕ) → groups ≤ g → slice_get (made_plan groups meters rounds).groups g ≡ None
past_groups groups meters rounds g le = slice_get_past (made_plan groups meters rounds).groups g (let count = group_count groups meters rounds in omega (arith, le, count))

all_groups : (P : ℕ → ℕ → Type 0) (groups meters rounds g : ℕ) → (g < groups → P meters 2) → P 0 0 → P (size (made_plan groups meters rounds).groups g) (floor_of (made_plan groups meters rounds).groups g)
all_groups P groups meters rounds g here past = by_test (nat_lt g groups) refl
  where
    by_test : (t : Bool) → nat_lt g groups ≡ t → P (size (made_plan groups meters rounds).groups g) (floor_of (made_plan groups meters rounds).groups g)
    by_test true e =
        let lt : g < groups = grind (arith, nat_tests, e) in
        rw (made_size groups meters rounds g lt, floor_is groups meters rounds g lt) (here lt)
    by_test false e =
        let none = past_groups groups meters rounds g (grind (arith, nat_tests, e)) in
        rw none past

equal_sum : {X : Type 0} (f : X → ℕ) (h : ℕ → X) (m a n : ℕ) → ((k : ℕ) → f (h k) ≡ m) → sum_by f (map h (range_with_len a n)) ≡ n * m
equal_sum f h m a zero each = omega arith
equal_sum f h m a (suc n) each =
    let rest = equal_sum f h m (a + 1) n each in
    let first = each a in
    let turn = suc-mul n m in
    sum_by-cons f (h a) (map h (range_with_len (a + 1) n)) ∙ omega (arith, rest, first, turn)

maps : {X Y : Type 0} (f : X → Y) (g : ℕ → X) (ks : List ℕ) → map f (map g ks) ≡ map (λ k. f (g k)) ks
maps f g [] = refl
maps f g (k ∷ ks) = ap (λ l. f (g k) ∷ l) (maps f g ks)

long_spans : (meters rounds : ℕ) → length (replicate meters (whole rounds)) ≡ meters
long_spans zero rounds = refl
long_spans (suc m) rounds = ap suc (long_spans m rounds)

meters_are : (groups meters rounds : ℕ) → all_meters (made_plan groups meters rounds).groups ≡ groups * meters
unfolding made_plan
meters_are groups meters rounds =
    ap (sum_by (λ (g : Group). length g.spans)) (maps (group_of rounds) (made_group meters) (range_with_len 0 groups))
    ∙ equal_sum (λ (g : Group). length g.spans) (λ k. group_of rounds (made_group meters k)) meters 0 groups (λ k. long_spans meters rounds)

pairs_are : (groups meters rounds : ℕ) → all_pairs (made_plan groups meters rounds).groups ≡ groups * pairs meters
unfolding made_plan
pairs_are groups meters rounds =
    ap (sum_by (λ (g : Group). pairs (length g.spans))) (maps (group_of rounds) (made_group meters) (range_with_len 0 groups))
    ∙ equal_sum (λ (g : Group). pairs (length g.spans)) (λ k. group_of rounds (made_group meters k)) (pairs meters) 0 groups (λ k. ap pairs (long_spans meters rounds))

windows_are : (groups meters rounds : ℕ) → ((made_plan groups meters rounds).w1 ≡ 2) × ((made_plan groups meters rounds).w2 ≡ 4)
unfolding made_plan
windows_are groups meters rounds = (refl, refl)

in_group : (groups meters rounds g i : ℕ) → i < size (made_plan groups meters rounds).groups g → (g < groups) × (i < meters)
in_group groups meters rounds g i within =
    let lt = group-lt (made_plan groups meters rounds).groups g i within in
    let count = group_count groups meters rounds in
    let here : g < groups = omega (arith, lt, count) in
    let same = made_size groups meters rounds g here in
    (here, omega (arith, within, same))

pub within_limits : (groups meters rounds : ℕ) → Limits groups meters rounds → IsWithinLimits (made_plan groups meters rounds)
within_limits groups meters rounds l =
    let plan = made_plan groups meters rounds in
    let count = group_count groups meters rounds in
    let all = made_rounds groups meters rounds in
    let windows = windows_are groups meters rounds in
    let w1 = windows.0 in
    let w2 = windows.1 in
    let few_groups = l.few_groups in
    let two = l.two_meters in
    let few = l.few_meters in
    let span : (g i : ℕ) → i < size plan.groups g → span_of plan.groups g i ≡ whole rounds = λ g i within. let at = in_group groups meters rounds g i within in span_is groups meters rounds g i at.0 at.1 in
    let sum = meters_are groups meters rounds in
    let readings = l.readings in
    let turn = mul_comm rounds (groups * meters) in
    record {
      some_group = let a = l.some_group in omega (arith, a, count);
      groups = omega (arith, few_groups, count);
      names = λ g lt. let here : g < groups = omega (arith, lt, count) in rw (made_name groups meters rounds g here) (named g (omega (arith, here, few_groups)));
      names_differ = λ g h lt within same.
          let there : h < groups = omega (arith, within, count) in
          let here : g < groups = omega (arith, lt, there) in
          names_differ g h lt (omega (arith, there, few_groups)) (sym (made_name groups meters rounds g here) ∙ (same ∙ made_name groups meters rounds h there));
      two_meters = λ g lt. let here : g < groups = omega (arith, lt, count) in let same = made_size groups meters rounds g here in omega (arith, same, two);
      meters = λ g. all_groups (λ m f. m ≤ 256) groups meters rounds g (λ lt. few) (omega arith);
      floor_from = λ g lt. let here : g < groups = omega (arith, lt, count) in let same = floor_is groups meters rounds g here in omega (arith, same);
      floor_to = λ g. all_groups (λ m f. f ≤ m) groups meters rounds g (λ lt. two) (omega arith);
      span_from = λ g i within. let same = span g i within in let from = ap (λ s. s.from) same in let until = ap (λ s. s.until) same in let some = l.some_round in omega (arith, from, until, some);
      span_to = λ g i within. let until = ap (λ s. s.until) (span g i within) in omega (arith, until, all);
      some_round = let a = l.some_round in omega (arith, a, all);
      rounds = let a = l.few_rounds in omega (arith, a, all);
      w1_from = omega (arith, w1);
      w1_to = omega (arith, w1);
      w2_from = omega (arith, w2);
      w2_to = omega (arith, w2);
      readings = rw (all, sum) (omega (arith, readings, turn));
      pairs = rw (pairs_are groups meters rounds) l.pairs;
    }

-- ---- the keys

found : {X : Type 0} (t : X → Bool) (i : ℕ) (xs : List X) → list_any t xs ≡ true → is_some (position_from t i xs) ≡ true
found t i [] h = absurd cc
found t i (x ∷ xs) h = by_test (t x) h (found t (i + 1) xs)
  where
    by_test : (b : Bool) → (b || list_any t xs) ≡ true → (list_any t xs ≡ true → is_some (position_from t (i + 1) xs) ≡ true) → is_some (if b then Some i else position_from t (i + 1) xs) ≡ true
    by_test true h ih = refl
    by_test false h ih = ih h

not_found : {X : Type 0} (t : X → Bool) (i : ℕ) (xs : List X) → list_any t xs ≡ false → position_from t i xs ≡ None
not_found t i [] h = refl
not_found t i (x ∷ xs) h = by_test (t x) h (not_found t (i + 1) xs)
  where
    by_test : (b : Bool) → (b || list_any t xs) ≡ false → (list_any t xs ≡ false → position_from t (i + 1) xs ≡ None) → (if b then Some i else position_from t (i + 1) xs) ≡ None
    by_test true h ih = absurd cc
    by_test false h ih = ih h

mapped_some : {X Y : Type 0} (f : X → Y) (o : Option X) → is_some o ≡ true → is_some (option_map f o) ≡ true
mapped_some f None h = absurd cc
mapped_some f (Some x) h = refl

mapped_from : {X Y : Type 0} (f : X → Y) (P : Y → Type 0) (o : Option X) → ((x : X) → P (f x)) → (y : Y) → option_map f o ≡ Some y → P y
mapped_from f P None each y h = absurd cc
mapped_from f P (Some x) each y h = let e : f x ≡ y = cc in subst P e (each x)

item_passes : (p : ℕ → Bool) (xs : List ℕ) (k : ℕ) → list_all p xs ≡ true → p 0 ≡ true → p (get_or xs k 0) ≡ true
item_passes p [] k h other = other
item_passes p (x ∷ xs) zero h other = (and_parts (p x) (list_all p xs) h).0
item_passes p (x ∷ xs) (suc k) h other = item_passes p xs k (and_parts (p x) (list_all p xs) h).1 other

abbrev is_byte : ℕ → Bool
is_byte c = nat_lt c 256

byte_of : (x : ℕ) → is_byte (x % 256) ≡ true
byte_of x = grind (arith, nat_tests)

word_bytes : (w : ℕ) → list_all is_byte (to_le_bytes w32 w) ≡ true
word_bytes w = both_true _ _ (byte_of w) (both_true _ _ (byte_of (w / 256 ^ 1)) (both_true _ _ (byte_of (w / 256 ^ 2)) (both_true _ _ (byte_of (w / 256 ^ 3)) refl)))

pub key_right : (stream : ChaCha) → IsKey (key_drawn stream)
unfolding key_drawn
key_right stream =
    let bytes = all_flat is_byte (λ k. to_le_bytes w32 (word_ahead stream k)) 0 8 (λ k from to. word_bytes (word_ahead stream k)) in
    record { long = refl; bytes = λ k. let passes = item_passes is_byte (flat_map (λ j. to_le_bytes w32 (word_ahead stream j)) (range_with_len 0 8)) k bytes refl in grind (arith, nat_tests, passes) }

keys_right : (seed : ℕ) (plan : PlanView) → AreKeysOf plan (made_keys seed plan)
unfolding made_keys
keys_right seed plan = record {
  of_plan = refl;
  complete = λ which is. mapped_some (made_key seed) (position (same_id which) (plan_keys plan)) (ap is_some (position_from-zero (same_id which) (plan_keys plan)) ∙ found (same_id which) 0 (plan_keys plan) (keys_all plan which is));
  no_other = λ which is. ap (option_map (made_key seed)) (position_from-zero (same_id which) (plan_keys plan) ∙ not_found (same_id which) 0 (plan_keys plan) (not_any plan which (plan_keys plan) (keys_only plan) is));
  each = λ which key is. mapped_from (made_key seed) IsKey (position (same_id which) (plan_keys plan)) (λ q. key_right (stream_at seed 1 (8 * q))) key is;
}

-- ---- the lane

digit_arg : (d : ℕ) → d < 10 → list_all is_arg_byte ((48 + d) ∷ []) ≡ true
digit_arg d few = let t : is_arg_byte (48 + d) ≡ true = grind (arith, nat_tests) in rw t refl

decimal_arg : (n : ℕ) → n < 2 ^ 64 → list_all is_arg_byte (decimal n) ≡ true
decimal_arg n small = decimal_by_steps (λ m ds. list_all is_arg_byte ds ≡ true)
    (λ m few. digit_arg m few) (λ m ds big ih. all_append is_arg_byte ds ((48 + m % 10) ∷ []) ih (digit_arg (m % 10) (omega arith))) n small

lane_right : (seed : ℕ) (plan : PlanView) → seed < 2 ^ 64 → IsLaneOf plan (made_lane seed plan)
lane_right seed plan small = record {
  name = refl;
  arg = all_append is_arg_byte (decimal seed) (codes ":5:10:2") (decimal_arg seed small) refl;
  order = omega arith;
  last = omega arith;
}

pub file_right : (seed groups meters rounds : ℕ) → seed < 2 ^ 64 → Limits groups meters rounds → IsPlanFile (made_file seed groups meters rounds)
unfolding made_file
file_right seed groups meters rounds small l =
    let plan = made_plan groups meters rounds in
    record {
      limits = within_limits groups meters rounds l;
      keys = keys_right seed plan;
      lanes = All-cons (IsLaneOf plan) (made_lane seed plan) [] (lane_right seed plan small) (All-nil (IsLaneOf plan));
    }

pub lane_in_row : (seed groups meters rounds : ℕ) → seed < 2 ^ 64 → AreInRows (first_lane_row (made_file seed groups meters rounds).plan) (made_file seed groups meters rounds).lanes
unfolding made_file
lane_in_row seed groups meters rounds small = (refl, all_append is_plain_byte (decimal seed) (codes ":5:10:2") (plain_decimal seed small) refl, tt)

-- ---- the readings

pub reading_small : (value presence v : ℕ) → reading_by value presence ≡ Some v → v < 2 ^ 40
unfolding reading_by
reading_small value presence v is = by_test (presence % 50 == 0) is
  where
    by_test : (t : Bool) → (if t then None else Some (value % 5000)) ≡ Some v → v < 2 ^ 40
    by_test true is = absurd cc
    by_test false is = let e : value % 5000 ≡ v = cc in omega (arith, e)

member_is : (groups meters rounds g r i : ℕ) → g < groups → r < rounds → i < meters → is_member (made_plan groups meters rounds).groups g r i ≡ true
member_is groups meters rounds g r i lt within few =
    let spans = get_or-replicate meters i (whole rounds) (record { from = 0; until = 0 }) few in
    let inside : holds (whole rounds) r ≡ true = grind (arith, nat_tests, within) in
    ap (λ o. is_member_of o r i) (group_at groups meters rounds g lt) ∙ (ap (λ s. holds s r) spans ∙ inside)

pub table_right : (seed groups meters rounds : ℕ) → IsReadingTable (made_plan groups meters rounds) (made_readings seed groups meters rounds).table
unfolding made_readings
table_right seed groups meters rounds =
    let plan = made_plan groups meters rounds in
    let f = λ (g r i : ℕ). made_reading seed ((g * rounds + r) * meters + i) in
    let shape = is_table-table_of plan f in
    let there : (g r i : ℕ) → is_place plan g r i ≡ true → reading (table_of plan f) g r i ≡ f g r i = λ g r i place. entry-table_of plan f None g r i place in
    let nowhere : (g r i : ℕ) → is_place plan g r i ≡ false → reading (table_of plan f) g r i ≡ None = λ g r i place. entry_outside plan (table_of plan f) shape None g r i place in
    record {
      shape = shape;
      small = λ g r i v is. few g r i (is_place plan g r i) refl v is (there g r i) (nowhere g r i);
      of_members = λ g r i is. member g r i (is_place plan g r i) refl is (there g r i) (nowhere g r i);
    }
  where
    few : (g r i : ℕ) (t : Bool) → is_place (made_plan groups meters rounds) g r i ≡ t → (v : ℕ) → reading (made_readings seed groups meters rounds).table g r i ≡ Some v
        → (is_place (made_plan groups meters rounds) g r i ≡ true → reading (made_readings seed groups meters rounds).table g r i ≡ made_reading seed ((g * rounds + r) * meters + i))
        → (is_place (made_plan groups meters rounds) g r i ≡ false → reading (made_readings seed groups meters rounds).table g r i ≡ None) → v < 2 ^ 40
    few g r i true place v is there nowhere = reading_small _ _ v (sym (there place) ∙ is)
    few g r i false place v is there nowhere = let none = nowhere place in absurd cc

    member : (g r i : ℕ) (t : Bool) → is_place (made_plan groups meters rounds) g r i ≡ t → is_some (reading (made_readings seed groups meters rounds).table g r i) ≡ true
        → (is_place (made_plan groups meters rounds) g r i ≡ true → reading (made_readings seed groups meters rounds).table g r i ≡ made_reading seed ((g * rounds + r) * meters + i))
        → (is_place (made_plan groups meters rounds) g r i ≡ false → reading (made_readings seed groups meters rounds).table g r i ≡ None)
        → is_member (made_plan groups meters rounds).groups g r i ≡ true
    member g r i true place is there nowhere =
        let both = in_place (made_plan groups meters rounds) g r i place in
        let at = in_group groups meters rounds g i both.1 in
        let all = made_rounds groups meters rounds in
        let round = both.0 in
        member_is groups meters rounds g r i at.0 (omega (arith, round, all)) at.1
    member g r i false place is there nowhere = let none = ap is_some (nowhere place) in absurd cc
