-- Neither file is too long to be read.
use Rattle.std.proofs.Common.{◌≡◌, ◌∙◌, ◌<◌, ◌≤◌, ◌+◌, ◌-◌, ◌*◌, ◌/◌, ◌^◌, ℕ, zero, suc, true, List, [], ◌∷◌, ◌++◌, length, map, Option, Some, None, refl, sym, ap, arith, codes, decimal, subst, length-append}
use Rattle.std.proofs.Math.Nat.{le-mul_of_pos_right, mul-add, mul_assoc, mul_comm, mul_left_comm, suc-mul}
use Rattle.std.proofs.lemmas.Bool.{and_parts}
use Rattle.std.proofs.lemmas.Bool.Decides.{nat_tests}
use Rattle.std.proofs.lemmas.Fmt.{length-decimal-le}
use Rattle.std.proofs.lemmas.List.FromFn.{length-map-range_with_len}
use Rattle.std.specs.List.{flat_map, list_all, range_with_len}
use Rattle.group_plan.specs.Plans.{IsWithinLimits, PlanView, pairs, size}
use Rattle.group_plan.proofs.MeterNumbers.{group-lt}
use Rattle.hex.specs.Hex.{encode_lower, lower_digits}
use Rattle.hex.proofs.HexLemmas.{length-encode_with}
use Rattle.pair_keys.specs.Ids.{is_key}
use Rattle.pair_keys.specs.declared.KeyId.{KeyId}
use Rattle.pair_keys.specs.declared.KeyId.TheVariants.{Own, Pair}
use Rattle.plan_files.specs.MissingKeys.{group_keys, pairs_above}
use Rattle.plan_files.specs.PlainRows.{rest_text, row_text}
use Rattle.plan_files.specs.Spelling.{key_fields, plan_text, readings_text}
use Rattle.plan_files.proofs.KeyOrder.{keys_only}
use Rattle.rand_chacha.specs.ChaCha.{ChaCha}
use Rattle.load_maker.specs.Drawing.{ahead, key_drawn, reading_drawn, stream_at}
use Rattle.load_maker.specs.Made.{made_file, made_plan, made_readings}
use Rattle.load_maker.specs.Writing.{field_text, fields_text, group_text, keys_text, lane_text, row_drawn, start_text}
use Rattle.load_maker.proofs.MadePlan.{made_key_list, plan_written}
use Rattle.load_maker.proofs.MadeReadings.{group_drawn, readings_written}
use Rattle.load_maker.proofs.MadeValues.{key_right, reading_small, within_limits}
use Rattle.load_maker.proofs.SizeLemmas.{Limits}

-- ---- numbers

short : (n : ℕ) → n < 2 ^ 64 → length (decimal n) ≤ 20
short n small = length-decimal-le 20 n (omega arith) (omega (arith, small)) small

-- ---- lists of short texts

flat_short : (f : ℕ → List ℕ) (c a n : ℕ) → ((k : ℕ) → a ≤ k → k < a + n → length (f k) ≤ c) → length (flat_map f (range_with_len a n)) ≤ n * c
flat_short f c a zero each = omega arith
flat_short f c a (suc n) each =
    let first = each a (omega arith) (omega arith) in
    let rest = flat_short f c (a + 1) n (λ k from to. each k (omega (arith, from)) (omega (arith, to))) in
    let both = length-append (f a) (flat_map f (range_with_len (a + 1) n)) in
    let turn = suc-mul n c in
    omega (arith, first, rest, both, turn)

-- ---- rows of keys

rest_long : (field : List ℕ) (fields : List (List ℕ)) → length (rest_text (field ∷ fields)) ≡ 1 + length field + length (rest_text fields)
rest_long field fields = let e = length-append field (rest_text fields) in omega (arith, e)

digits_long : (stream : ChaCha) → length (encode_lower (key_drawn stream)) ≡ 64
digits_long stream =
    let e = length-encode_with lower_digits (key_drawn stream) in
    let long = (key_right stream).long in
    omega (arith, e, long)

key_short : (plan : PlanView) → IsWithinLimits plan → (stream : ChaCha) (which : KeyId) → is_key plan which ≡ true → length (row_text (key_fields which (Some (key_drawn stream)))) ≤ 160
key_short plan limits stream (Own g i) is =
    let within : i < size plan.groups g = grind (arith, nat_tests, is) in
    let group = group-lt plan.groups g i within in
    let few = limits.groups in
    let meters = limits.meters g in
    let a = short g (omega (arith, group, few)) in
    let b = short i (omega (arith, within, meters)) in
    let d = digits_long stream in
    let r3 = rest_long (encode_lower (key_drawn stream)) [] in
    let r2 = rest_long (decimal i) (encode_lower (key_drawn stream) ∷ []) in
    let r1 = rest_long (decimal g) (decimal i ∷ encode_lower (key_drawn stream) ∷ []) in
    let all = length-append (codes "own") (rest_text (decimal g ∷ decimal i ∷ encode_lower (key_drawn stream) ∷ [])) in
    omega (arith, a, b, d, r1, r2, r3, all)
key_short plan limits stream (Pair g low high) is =
    let order : low < high = grind (arith, nat_tests, is) in
    let within : high < size plan.groups g = grind (arith, nat_tests, is) in
    let group = group-lt plan.groups g high within in
    let few = limits.groups in
    let meters = limits.meters g in
    let a = short g (omega (arith, group, few)) in
    let b = short low (omega (arith, order, within, meters)) in
    let e = short high (omega (arith, within, meters)) in
    let d = digits_long stream in
    let r4 = rest_long (encode_lower (key_drawn stream)) [] in
    let r3 = rest_long (decimal high) (encode_lower (key_drawn stream) ∷ []) in
    let r2 = rest_long (decimal low) (decimal high ∷ encode_lower (key_drawn stream) ∷ []) in
    let r1 = rest_long (decimal g) (decimal low ∷ decimal high ∷ encode_lower (key_drawn stream) ∷ []) in
    let all = length-append (codes "pair") (rest_text (decimal g ∷ decimal low ∷ decimal high ∷ encode_lower (key_drawn stream) ∷ [])) in
    omega (arith, a, b, d, e, r1, r2, r3, r4, all)

keys_short : (plan : PlanView) → IsWithinLimits plan → (stream : ChaCha) (ids : List KeyId) → list_all (is_key plan) ids ≡ true → length (keys_text stream ids) ≤ 160 * length ids
unfolding keys_text
keys_short plan limits stream [] inside = omega arith
keys_short plan limits stream (x ∷ xs) inside =
    let b = and_parts (is_key plan x) (list_all (is_key plan) xs) inside in
    let first = key_short plan limits stream x b.0 in
    let rest = keys_short plan limits (ahead stream 8) xs b.1 in
    let both = length-append (row_text (key_fields x (Some (key_drawn stream)))) (keys_text (ahead stream 8) xs) in
    omega (arith, first, rest, both)

-- ---- how many keys there are

id_append : (xs ys : List KeyId) → length (xs ++ ys) ≡ length xs + length ys
id_append [] ys = omega arith
id_append (x ∷ xs) ys = let e = id_append xs ys in omega (arith, e)

pairs_count : (g all a n : ℕ) → a + n ≡ all → 2 * length (flat_map (pairs_above g all) (range_with_len a n)) + n ≡ n * n
pairs_count g all a zero sum = refl
pairs_count g all a (suc n) sum =
    let row : length (pairs_above g all a) ≡ n = length-map-range_with_len (Pair g a) (a + 1) (all - (a + 1)) ∙ omega (arith, sum) in
    let rest = pairs_count g all (a + 1) n (omega (arith, sum)) in
    let both = id_append (pairs_above g all a) (flat_map (pairs_above g all) (range_with_len (a + 1) n)) in
    let square : suc n * suc n ≡ n * n + n + suc n = suc-mul n (suc n) ∙ ap (λ k. k + suc n) (mul_comm n (suc n) ∙ suc-mul n n) in
    omega (arith, row, rest, both, square)

half : (n m : ℕ) → 2 * n + m ≡ m * m → n ≡ pairs m
half n zero is = omega (arith, is)
half n (suc k) is =
    let square : suc k * suc k ≡ suc k * k + suc k = suc-mul k (suc k) ∙ ap (λ x. x + suc k) (mul_comm k (suc k)) in
    let product : suc k * k ≡ 2 * n = omega (arith, is, square) in
    let less : suc k - 1 ≡ k = omega arith in
    let halved : 2 * n / 2 ≡ n = omega arith in
    sym (ap (λ j. suc k * j / 2) less ∙ (ap (λ p. p / 2) product ∙ halved))

group_count : (g m : ℕ) → length (group_keys g m) ≡ m + pairs m
group_count g m =
    let owns = length-map-range_with_len (Own g) 0 m in
    let rest = half (length (flat_map (pairs_above g m) (range_with_len 0 m))) m (pairs_count g m 0 m (omega arith)) in
    let both = id_append (map (Own g) (range_with_len 0 m)) (flat_map (pairs_above g m) (range_with_len 0 m)) in
    omega (arith, owns, rest, both)

keys_count : (m a n : ℕ) → length (flat_map (λ g. group_keys g m) (range_with_len a n)) ≡ n * (m + pairs m)
keys_count m a zero = omega arith
keys_count m a (suc n) =
    let first = group_count a m in
    let rest = keys_count m (a + 1) n in
    let both = id_append (group_keys a m) (flat_map (λ g. group_keys g m) (range_with_len (a + 1) n)) in
    let turn = suc-mul n (m + pairs m) in
    omega (arith, first, rest, both, turn)

few_keys : (groups meters rounds : ℕ) → Limits groups meters rounds → length (flat_map (λ g. group_keys g meters) (range_with_len 0 groups)) ≤ 1179648
few_keys groups meters rounds l =
    let count = keys_count meters 0 groups in
    let parts = mul-add groups meters (pairs meters) in
    let some = l.some_round in
    let owns : groups * meters ≤ groups * meters * rounds = le-mul_of_pos_right (groups * meters) some in
    let readings = l.readings in
    let most = l.pairs in
    omega (arith, count, parts, owns, readings, most)

-- ---- the plan file

group_short : (meters g : ℕ) → meters ≤ 256 → g < 256 → length (group_text meters g) ≤ 60
group_short meters g few lt =
    let a = short g (omega (arith, lt)) in
    let b = short meters (omega (arith, few)) in
    let l1 = length-append (codes "group,g") (decimal g) in
    let l2 = length-append (codes "group,g" ++ decimal g) (codes ",") in
    let l3 = length-append (codes "group,g" ++ decimal g ++ codes ",") (decimal meters) in
    let l4 = length-append (codes "group,g" ++ decimal g ++ codes "," ++ decimal meters) (codes ",2") in
    let l5 = length-append (codes "group,g" ++ decimal g ++ codes "," ++ decimal meters ++ codes ",2") (10 ∷ []) in
    omega (arith, a, b, l1, l2, l3, l4, l5)

start_short : (rounds : ℕ) → rounds ≤ 4096 → length (start_text rounds) ≤ 60
start_short rounds few =
    let a = short rounds (omega (arith, few)) in
    let l1 = length-append (codes "plan,1" ++ 10 ∷ codes "rounds,") (decimal rounds) in
    let l2 = length-append (codes "plan,1" ++ 10 ∷ codes "rounds," ++ decimal rounds) (10 ∷ codes "windows,2,4") in
    let l3 = length-append (codes "plan,1" ++ 10 ∷ codes "rounds," ++ decimal rounds ++ 10 ∷ codes "windows,2,4") (10 ∷ []) in
    omega (arith, a, l1, l2, l3)

lane_short : (seed last : ℕ) → seed < 2 ^ 64 → last < 2 ^ 64 → length (lane_text seed last) ≤ 80
lane_short seed last small few =
    let a = short seed small in
    let b = short last few in
    let l1 = length-append (codes "lane,seeded,") (decimal seed) in
    let l2 = length-append (codes "lane,seeded," ++ decimal seed) (codes ":5:10:2,0,") in
    let l3 = length-append (codes "lane,seeded," ++ decimal seed ++ codes ":5:10:2,0,") (decimal last) in
    let l4 = length-append (codes "lane,seeded," ++ decimal seed ++ codes ":5:10:2,0," ++ decimal last) (10 ∷ []) in
    omega (arith, a, b, l1, l2, l3, l4)

pub plan_short : (seed groups meters rounds : ℕ) → seed < 2 ^ 64 → Limits groups meters rounds → length (plan_text (made_file seed groups meters rounds)) ≤ 2 ^ 28
plan_short seed groups meters rounds small l =
    let plan = made_plan groups meters rounds in
    let ids = flat_map (λ g. group_keys g meters) (range_with_len 0 groups) in
    let few = l.few_rounds in
    let most = l.few_groups in
    let F = start_text rounds in
    let G = flat_map (group_text meters) (range_with_len 0 groups) in
    let K = keys_text (stream_at seed 1 0) ids in
    let L = lane_text seed (rounds + 37) in
    let inside : list_all (is_key plan) ids ≡ true = subst (λ xs. list_all (is_key plan) xs ≡ true) (made_key_list groups meters rounds) (keys_only plan) in
    let a = start_short rounds few in
    let b = flat_short (group_text meters) 60 0 groups (λ g from to. group_short meters g l.few_meters (omega (arith, to, most))) in
    let d = keys_short plan (within_limits groups meters rounds l) (stream_at seed 1 0) ids inside in
    let e = lane_short seed (rounds + 37) small (omega (arith, few)) in
    let count = few_keys groups meters rounds l in
    let l1 = length-append F G in
    let l2 = length-append (F ++ G) K in
    let l3 = length-append (F ++ G ++ K) L in
    subst (λ t. length t ≤ 2 ^ 28) (plan_written seed groups meters rounds l.some_round) (omega (arith, a, b, d, e, count, l1, l2, l3, most))

-- ---- the readings file

reading_short : (reading : Option ℕ) → ((v : ℕ) → reading ≡ Some v → v < 2 ^ 40) → length (field_text reading) ≤ 21
reading_short None few = omega arith
reading_short (Some v) few = let small = few v refl in let a = short v (omega (arith, small)) in omega (arith, a)

row_short : (stream : ChaCha) (g r meters : ℕ) → g < 256 → r < 4096 → 2 ≤ meters → length (row_drawn stream g r meters) ≤ 64 * meters
unfolding row_drawn
row_short stream g r meters lt within two =
    let a = short g (omega (arith, lt)) in
    let b = short r (omega (arith, within)) in
    let f = flat_short (λ i. field_text (reading_drawn (ahead stream (2 * i)))) 21 0 meters (λ i from to. reading_short (reading_drawn (ahead stream (2 * i))) (λ v is. reading_small _ _ v is)) in
    let l1 = length-append (codes "g") (decimal g) in
    let l2 = length-append (codes "g" ++ decimal g) (codes ",") in
    let l3 = length-append (codes "g" ++ decimal g ++ codes ",") (decimal r) in
    let l4 = length-append (codes "g" ++ decimal g ++ codes "," ++ decimal r) (fields_text stream meters) in
    let l5 = length-append (codes "g" ++ decimal g ++ codes "," ++ decimal r ++ fields_text stream meters) (10 ∷ []) in
    omega (arith, a, b, f, l1, l2, l3, l4, l5, two)

pub readings_short : (seed groups meters rounds : ℕ) → Limits groups meters rounds → length (readings_text (made_readings seed groups meters rounds)) ≤ 2 ^ 28
readings_short seed groups meters rounds l =
    let most = l.few_groups in
    let few = l.few_rounds in
    let group : (g : ℕ) → 0 ≤ g → g < 0 + groups → length (group_drawn seed meters rounds g) ≤ rounds * (64 * meters) =
    λ g from to. flat_short (λ r. row_drawn (ahead (stream_at seed 2 (2 * (g * rounds * meters))) (2 * (r * meters))) g r meters) (64 * meters) 0 rounds
    (λ r a b. row_short (ahead (stream_at seed 2 (2 * (g * rounds * meters))) (2 * (r * meters))) g r meters (omega (arith, to, most)) (omega (arith, b, few)) l.two_meters) in
    let all = flat_short (group_drawn seed meters rounds) (rounds * (64 * meters)) 0 groups group in
    let turn : groups * (rounds * (64 * meters)) ≡ 64 * (groups * meters * rounds) =
    ap (λ k. groups * k) (mul_left_comm rounds 64 meters) ∙ (mul_left_comm groups 64 (rounds * meters) ∙ ap (λ k. 64 * k) (ap (λ k. groups * k) (mul_comm rounds meters) ∙ sym (mul_assoc groups meters rounds))) in
    let readings = l.readings in
    subst (λ t. length t ≤ 2 ^ 28) (readings_written seed groups meters rounds) (omega (arith, all, turn, readings))
