-- The text of the plan file as it is drawn is that of the value.
use Rattle.std.proofs.Common.{◌≡◌, ◌∙◌, ◌<◌, ◌≤◌, ◌+◌, ◌*◌, ◌&&◌, ◌||◌, not, ℕ, Bool, true, false, cond, List, [], ◌∷◌, ◌++◌, length, map, filter, Some, refl, sym, ap, arith, codes, decimal, append_assoc, subst}
use Rattle.std.proofs.lemmas.Bool.Decides.{nat_tests}
use Rattle.std.proofs.lemmas.Fmt.{decimal_digit}
use Rattle.std.proofs.lemmas.Grind.{flat_map-append}
use Rattle.std.proofs.lemmas.Iterator.Adapters.{position_from-zero}
use Rattle.std.proofs.lemmas.List.{append-nil, get_or-replicate, length-replicate}
use Rattle.std.proofs.lemmas.List.Folds.{flat_map-map}
use Rattle.std.specs.List.{flat_map, list_all, list_any, position_from, range_with_len}
use Rattle.std.specs.Option.{option_map}
use Rattle.std.specs.Prelude.{position}
use Rattle.group_plan.specs.NewPlans.{group_of, whole}
use Rattle.group_plan.specs.Plans.{PlanView, last_tick, size, span_of, span_or}
use Rattle.pair_keys.specs.Ids.{same_id}
use Rattle.pair_keys.specs.declared.KeyId.{KeyId}
use Rattle.plan_files.specs.MissingKeys.{group_keys, plan_keys}
use Rattle.plan_files.specs.PlainRows.{file_text, row_text}
use Rattle.plan_files.specs.declared.form.PlanForm.TheVariants.{Whole}
use Rattle.plan_files.specs.Spelling.{all_spans, first_rows, group_fields, is_partial, key_fields, key_rows, lane_fields, member_fields, partial_spans, plan_rows, plan_text, span_at}
use Rattle.plan_files.proofs.DistinctLemmas.{Distinct, all_flat, all_map}
use Rattle.plan_files.proofs.KeyOrder.{keys_distinct}
use Rattle.plan_files.proofs.SpelledKeys.{same_flip, same_self}
use Rattle.load_maker.specs.Drawing.{key_drawn, stream_at}
use Rattle.load_maker.specs.Made.{group_name, made_file, made_group, made_key, made_keys, made_lane, made_plan}
use Rattle.load_maker.specs.Writing.{group_text, keys_text, lane_text, start_text}
use Rattle.load_maker.proofs.MadeReadings.{group_at, group_count, made_rounds, made_size, same_flat}

-- ---- the first rows

pub first_is : (groups meters rounds : ℕ) → file_text (first_rows Whole (made_plan groups meters rounds)) ≡ start_text rounds
unfolding made_plan
first_is groups meters rounds = joined (decimal rounds)
  where
    joined : (d : List ℕ) → file_text ((codes "plan" ∷ codes "1" ∷ []) ∷ (codes "rounds" ∷ d ∷ []) ∷ (codes "windows" ∷ decimal 2 ∷ decimal 4 ∷ []) ∷ [])
        ≡ codes "plan,1" ++ 10 ∷ codes "rounds," ++ d ++ 10 ∷ codes "windows,2,4" ++ 10 ∷ []
    joined d =
        let two : decimal 2 ≡ 50 ∷ [] = decimal_digit 2 (omega arith) in
        let four : decimal 4 ≡ 52 ∷ [] = decimal_digit 4 (omega arith) in
        let start = λ (l : List ℕ). codes "plan,1" ++ 10 ∷ codes "rounds," ++ l in
        rw (two, four) (ap start (append_assoc d (10 ∷ []) (codes "windows,2,4" ++ 10 ∷ [])) ∙ sym (ap start (append_assoc d (10 ∷ codes "windows,2,4") (10 ∷ []))))

-- ---- the groups

group_is : (meters rounds g : ℕ) → row_text (group_fields (group_of rounds (made_group meters g))) ≡ group_text meters g
group_is meters rounds g =
    ap (λ n. row_text (codes "group" ∷ group_name g ∷ decimal n ∷ decimal 2 ∷ [])) (length-replicate meters (whole rounds)) ∙ named (decimal g) (decimal meters)
  where
    named : (d m : List ℕ) → row_text (codes "group" ∷ (codes "g" ++ d) ∷ m ∷ decimal 2 ∷ []) ≡ codes "group,g" ++ d ++ codes "," ++ m ++ codes ",2" ++ 10 ∷ []
    named d m = let two : decimal 2 ≡ 50 ∷ [] = decimal_digit 2 (omega arith) in rw two (simp append_assoc refl)

pub groups_are : (groups meters rounds : ℕ) → file_text (map group_fields (made_plan groups meters rounds).groups) ≡ flat_map (group_text meters) (range_with_len 0 groups)
unfolding made_plan
groups_are groups meters rounds =
    flat_map-map row_text group_fields (map (group_of rounds) (map (made_group meters) (range_with_len 0 groups)))
    ∙ (flat_map-map (λ g. row_text (group_fields g)) (group_of rounds) (map (made_group meters) (range_with_len 0 groups))
    ∙ (flat_map-map (λ g. row_text (group_fields (group_of rounds g))) (made_group meters) (range_with_len 0 groups)
    ∙ same_flat (λ g. row_text (group_fields (group_of rounds (made_group meters g)))) (group_text meters) 0 groups (λ g from to. group_is meters rounds g)))

-- ---- the keys

neither : (a b : Bool) → (a || b) ≡ false → (a ≡ false) × (b ≡ false)
neither true b h = absurd cc
neither false b h = (refl, h)

not_among : {X : Type 0} (p : X → Bool) (xs : List X) (y : X) (zs : List X) → list_any p (xs ++ y ∷ zs) ≡ false → p y ≡ false
not_among p [] y zs h = (neither (p y) (list_any p zs) h).0
not_among p (x ∷ xs) y zs h = not_among p xs y zs (neither (p x) (list_any p (xs ++ y ∷ zs)) h).1

place_from : (before : List KeyId) (x : KeyId) (xs : List KeyId) (i j : ℕ) → i + length before ≡ j → Distinct same_id (before ++ x ∷ xs) → position_from (same_id x) i (before ++ x ∷ xs) ≡ Some j
place_from [] x xs i j sum once = rw (same_self x) (ap Some (let e : i ≡ j = omega (arith, sum) in e))
place_from (y ∷ ys) x xs i j sum once =
    let other = same_flip y x (not_among (same_id y) ys x xs once.0) in
    rw other (place_from ys x xs (i + 1) j (omega (arith, sum)) once.1)

place_of : (before : List KeyId) (x : KeyId) (xs : List KeyId) → Distinct same_id (before ++ x ∷ xs) → position (same_id x) (before ++ x ∷ xs) ≡ Some (length before)
place_of before x xs once = position_from-zero (same_id x) (before ++ x ∷ xs) ∙ place_from before x xs 0 (length before) (omega arith) once

key_is : (seed : ℕ) (plan : PlanView) (before : List KeyId) (x : KeyId) (xs : List KeyId) → plan_keys plan ≡ before ++ x ∷ xs → (made_keys seed plan).key x ≡ Some (key_drawn (stream_at seed 1 (8 * length before)))
unfolding made_keys
key_is seed plan before x xs all =
    let once = subst (Distinct same_id) all (keys_distinct plan) in
    ap (option_map (made_key seed)) (ap (position (same_id x)) all ∙ place_of before x xs once)

length_push : (before : List KeyId) (x : KeyId) → length (before ++ x ∷ []) ≡ length before + 1
length_push [] x = omega arith
length_push (y ∷ ys) x = let e = length_push ys x in omega (arith, e)

keys_from : (seed : ℕ) (plan : PlanView) (before ids : List KeyId) → plan_keys plan ≡ before ++ ids
    → file_text (map (λ which. key_fields which ((made_keys seed plan).key which)) ids) ≡ keys_text (stream_at seed 1 (8 * length before)) ids
unfolding keys_text
keys_from seed plan before [] all = refl
keys_from seed plan before (x ∷ xs) all =
    let next : plan_keys plan ≡ (before ++ x ∷ []) ++ xs = all ∙ sym (append_assoc before (x ∷ []) xs) in
    let long = length_push before x in
    let place : 8 * length (before ++ x ∷ []) ≡ 8 * length before + 8 = omega (arith, long) in
    ap (λ k. row_text (key_fields x k) ++ file_text (map (λ which. key_fields which ((made_keys seed plan).key which)) xs)) (key_is seed plan before x xs all)
    ∙ ap (λ l. row_text (key_fields x (Some (key_drawn (stream_at seed 1 (8 * length before))))) ++ l)
    (keys_from seed plan (before ++ x ∷ []) xs next ∙ ap (λ p. keys_text (stream_at seed 1 p) xs) place)

pub made_key_list : (groups meters rounds : ℕ) → plan_keys (made_plan groups meters rounds) ≡ flat_map (λ g. group_keys g meters) (range_with_len 0 groups)
unfolding plan_keys
made_key_list groups meters rounds =
    let plan = made_plan groups meters rounds in
    ap (λ n. flat_map (λ g. group_keys g (size plan.groups g)) (range_with_len 0 n)) (group_count groups meters rounds)
    ∙ same_flat (λ g. group_keys g (size plan.groups g)) (λ g. group_keys g meters) 0 groups (λ g from to. ap (group_keys g) (made_size groups meters rounds g (omega (arith, to))))

pub keys_are : (seed groups meters rounds : ℕ) → file_text (key_rows (made_plan groups meters rounds) (made_keys seed (made_plan groups meters rounds))) ≡ keys_text (stream_at seed 1 0) (flat_map (λ g. group_keys g meters) (range_with_len 0 groups))
keys_are seed groups meters rounds =
    let plan = made_plan groups meters rounds in
    keys_from seed plan [] (plan_keys plan) refl ∙ ap (keys_text (stream_at seed 1 0)) (made_key_list groups meters rounds)

-- ---- the lane

pub last_is : (groups meters rounds : ℕ) → 1 ≤ rounds → last_tick (made_plan groups meters rounds) ≡ rounds + 37
unfolding made_plan
last_is groups meters rounds some = omega (arith, some)

pub lane_is : (seed groups meters rounds : ℕ) → 1 ≤ rounds → file_text (map lane_fields (made_lane seed (made_plan groups meters rounds) ∷ [])) ≡ lane_text seed (rounds + 37)
lane_is seed groups meters rounds some =
    ap (λ n. row_text (codes "lane" ∷ codes "seeded" ∷ (decimal seed ++ codes ":5:10:2") ∷ decimal 0 ∷ decimal n ∷ []) ++ []) (last_is groups meters rounds some) ∙ hung (decimal seed) (decimal (rounds + 37))
  where
    hung : (s t : List ℕ) → row_text (codes "lane" ∷ codes "seeded" ∷ (s ++ codes ":5:10:2") ∷ decimal 0 ∷ t ∷ []) ++ [] ≡ codes "lane,seeded," ++ s ++ codes ":5:10:2,0," ++ t ++ 10 ∷ []
    hung s t =
        let none : decimal 0 ≡ 48 ∷ [] = decimal_digit 0 (omega arith) in
        let start = λ (l : List ℕ). codes "lane,seeded," ++ l in
        append-nil (row_text (codes "lane" ∷ codes "seeded" ∷ (s ++ codes ":5:10:2") ∷ decimal 0 ∷ t ∷ []))
        ∙ (ap (λ z. row_text (codes "lane" ∷ codes "seeded" ∷ (s ++ codes ":5:10:2") ∷ z ∷ t ∷ [])) none
        ∙ (ap start (append_assoc s (codes ":5:10:2") (codes ",0," ++ (t ++ 10 ∷ [])))
        ∙ sym (ap start (append_assoc (s ++ codes ":5:10:2,0,") t (10 ∷ []) ∙ append_assoc s (codes ":5:10:2,0,") (t ++ 10 ∷ [])))))

-- ---- no members

pub span_is : (groups meters rounds g i : ℕ) → g < groups → i < meters → span_of (made_plan groups meters rounds).groups g i ≡ whole rounds
span_is groups meters rounds g i lt within =
    ap (λ o. span_or o i) (group_at groups meters rounds g lt) ∙ get_or-replicate meters i (whole rounds) (record { from = 0; until = 0 }) within

not_partial : (groups meters rounds g i : ℕ) → g < groups → i < meters → not (is_partial (made_plan groups meters rounds) (span_at (made_plan groups meters rounds) g i)) ≡ true
not_partial groups meters rounds g i lt within =
    let span = span_is groups meters rounds g i lt within in
    let from = ap (λ s. s.from) span in
    let until = ap (λ s. s.until) span in
    let all = made_rounds groups meters rounds in
    grind (arith, nat_tests, from, until, all)

keep_no : {X : Type 0} (q : X → Bool) (xs : List X) → list_all (λ x. not (q x)) xs ≡ true → filter q xs ≡ []
keep_no q [] h = refl
keep_no q (x ∷ xs) h = by_test (q x) h (keep_no q xs)
  where
    by_test : (t : Bool) → (not t && list_all (λ y. not (q y)) xs) ≡ true → (list_all (λ y. not (q y)) xs ≡ true → filter q xs ≡ []) → cond t (x ∷ filter q xs) (filter q xs) ≡ []
    by_test true h ih = absurd cc
    by_test false h ih = ih h

pub no_spans : (groups meters rounds : ℕ) → partial_spans (made_plan groups meters rounds) ≡ []
unfolding partial_spans
no_spans groups meters rounds =
    let plan = made_plan groups meters rounds in
    let count = group_count groups meters rounds in
    keep_no (is_partial plan) (all_spans plan)
    (all_flat (λ s. not (is_partial plan s)) (λ g. map (span_at plan g) (range_with_len 0 (size plan.groups g))) 0 (length plan.groups)
    (λ g from to. all_map (λ s. not (is_partial plan s)) (span_at plan g) 0 (size plan.groups g)
    (λ i a b.
    let lt : g < groups = omega (arith, to, count) in
    let same = made_size groups meters rounds g lt in
    not_partial groups meters rounds g i lt (omega (arith, b, same)))))

-- ---- the whole

pub plan_written : (seed groups meters rounds : ℕ) → 1 ≤ rounds
    → start_text rounds ++ flat_map (group_text meters) (range_with_len 0 groups) ++ keys_text (stream_at seed 1 0) (flat_map (λ g. group_keys g meters) (range_with_len 0 groups)) ++ lane_text seed (rounds + 37)
    ≡ plan_text (made_file seed groups meters rounds)
unfolding plan_rows made_file
plan_written seed groups meters rounds some =
    let plan = made_plan groups meters rounds in
    let F = first_rows Whole plan in
    let G = map group_fields plan.groups in
    let K = key_rows plan (made_keys seed plan) in
    let L = map lane_fields (made_lane seed plan ∷ []) in
    sym (ap (λ m. file_text (F ++ G ++ K ++ L ++ map member_fields m)) (no_spans groups meters rounds)
    ∙ (ap file_text (append-nil (F ++ G ++ K ++ L))
    ∙ (flat_map-append row_text (F ++ G ++ K) L
    ∙ (ap (λ t. t ++ file_text L) (flat_map-append row_text (F ++ G) K ∙ ap (λ t. t ++ file_text K) (flat_map-append row_text F G))
    ∙ (ap (λ t. t ++ file_text G ++ file_text K ++ file_text L) (first_is groups meters rounds)
    ∙ (ap (λ t. start_text rounds ++ t ++ file_text K ++ file_text L) (groups_are groups meters rounds)
    ∙ (ap (λ t. start_text rounds ++ flat_map (group_text meters) (range_with_len 0 groups) ++ t ++ file_text L) (keys_are seed groups meters rounds)
    ∙ ap (λ t. start_text rounds ++ flat_map (group_text meters) (range_with_len 0 groups) ++ keys_text (stream_at seed 1 0) (flat_map (λ g. group_keys g meters) (range_with_len 0 groups)) ++ t) (lane_is seed groups meters rounds some))))))))

-- four parts, one behind the other
pub four_parts : (none a b d e F G K L : List ℕ) → none ≡ [] → a ≡ none ++ F → b ≡ a ++ G → d ≡ b ++ K → e ≡ d ++ L → e ≡ F ++ G ++ K ++ L
four_parts none a b d e F G K L h1 h2 h3 h4 h5 =
    h5 ∙ (ap (λ t. t ++ L) h4 ∙ (ap (λ t. t ++ K ++ L) h3 ∙ (ap (λ t. t ++ G ++ K ++ L) h2 ∙ ap (λ t. t ++ F ++ G ++ K ++ L) h1)))
