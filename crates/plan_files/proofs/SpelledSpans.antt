-- The spans that a plan file spells: they have no fault, and the plan with them is the plan.
use Rattle.std.proofs.Common.{◌≡◌, ◌∙◌, ◌<◌, ◌≤◌, ◌+◌, ◌&&◌, ◌||◌, ℕ, zero, suc, Bool, true, false, cond, List, [], ◌∷◌, ◌++◌, length, map, filter, get_or, refl, sym, ap, arith, Option, Some, None, if◌then◌else◌}
use Rattle.std.specs.Prelude.{slice_get}
use Rattle.std.specs.List.{flat_map, list_all, list_any, range_with_len}
use Rattle.std.proofs.lemmas.Bool.{and_parts}
use Rattle.std.proofs.lemmas.Bool.Decides.{nat_tests}
use Rattle.std.proofs.lemmas.List.{length-map, length-replicate}
use Rattle.std.proofs.lemmas.List.FromFn.{fill_by_all}
use Rattle.std.proofs.lemmas.Option.{slice_get-get_or}
use Rattle.group_plan.specs.NewPlans.{group_of, plan_of, stated, whole}
use Rattle.group_plan.specs.Plans.{Group, IsWithinLimits, PlanView, Rounds, floor_or, name_or, size, size_or, span_of, span_or}
use Rattle.group_plan.specs.Spans.{group_with, is_in_plan, is_of, rounds_given, rounds_of, span_fault, span_fault_from, with_spans}
use Rattle.group_plan.specs.declared.plan.members.Span.{Span}
use Rattle.group_plan.proofs.MeterNumbers.{group-lt}
use Rattle.plan_files.specs.Spelling.{all_spans, is_partial, partial_spans, span_at}
use Rattle.plan_files.proofs.DistinctLemmas.{Distinct, Respects, all_flat, all_map, any_flat, any_map, both_true, distinct_flat, distinct_map, tagged_map}
use Rattle.plan_files.proofs.SpelledForms.{AllSmall}

-- the plan that is stated, before its members' spans are known
abbrev pub start_of : PlanView → PlanView
start_of plan = plan_of (map stated plan.groups) plan.rounds plan.w1 plan.w2

pub size_start : (rounds : ℕ) (groups : List Group) (g : ℕ) → size (map (group_of rounds) (map stated groups)) g ≡ size groups g
size_start rounds [] g = refl
size_start rounds (x ∷ xs) zero = length-replicate (length x.spans) (whole rounds)
size_start rounds (x ∷ xs) (suc g) = size_start rounds xs g

-- ---- tests of the spans that are kept

keep_all : {X : Type 0} (p q : X → Bool) (xs : List X) → list_all p xs ≡ true → list_all p (filter q xs) ≡ true
keep_all p q [] h = refl
keep_all p q (x ∷ xs) h = let b = and_parts (p x) (list_all p xs) h in by_test (q x) b.0 (keep_all p q xs b.1)
  where
    by_test : (t : Bool) → p x ≡ true → list_all p (filter q xs) ≡ true → list_all p (cond t (x ∷ filter q xs) (filter q xs)) ≡ true
    by_test true one ih = both_true (p x) (list_all p (filter q xs)) one ih
    by_test false one ih = ih

neither : (a b : Bool) → (a || b) ≡ false → (a ≡ false) × (b ≡ false)
neither true b h = absurd cc
neither false b h = (refl, h)

keep_none : {X : Type 0} (p q : X → Bool) (xs : List X) → list_any p xs ≡ false → list_any p (filter q xs) ≡ false
keep_none p q [] h = refl
keep_none p q (x ∷ xs) h = let b = neither (p x) (list_any p xs) h in by_test (q x) b.0 (keep_none p q xs b.1)
  where
    by_test : (t : Bool) → p x ≡ false → list_any p (filter q xs) ≡ false → list_any p (cond t (x ∷ filter q xs) (filter q xs)) ≡ false
    by_test true one ih = rw (one, ih) refl
    by_test false one ih = ih

keep_distinct : {X : Type 0} (same : X → X → Bool) (q : X → Bool) (xs : List X) → Distinct same xs → Distinct same (filter q xs)
keep_distinct same q [] d = tt
keep_distinct same q (x ∷ xs) d = by_test (q x) (keep_distinct same q xs d.1)
  where
    by_test : (t : Bool) → Distinct same (filter q xs) → Distinct same (cond t (x ∷ filter q xs) (filter q xs))
    by_test true ih = (keep_none (same x) q xs d.0, ih)
    by_test false ih = ih

keep_any : {X : Type 0} (p q : X → Bool) (xs : List X) → list_any (λ x. q x && p x) xs ≡ true → list_any p (filter q xs) ≡ true
keep_any p q [] h = absurd cc
keep_any p q (x ∷ xs) h = by_test (q x) (keep_any p q xs) h
  where
    by_test : (t : Bool) → (list_any (λ y. q y && p y) xs ≡ true → list_any p (filter q xs) ≡ true) → ((t && p x) || list_any (λ y. q y && p y) xs) ≡ true
        → list_any p (cond t (x ∷ filter q xs) (filter q xs)) ≡ true
    by_test true ih h = by_first (p x) ih h
      where
        by_first : (u : Bool) → (list_any (λ y. q y && p y) xs ≡ true → list_any p (filter q xs) ≡ true) → (u || list_any (λ y. q y && p y) xs) ≡ true → (u || list_any p (filter q xs)) ≡ true
        by_first true ih h = refl
        by_first false ih h = ih h
    by_test false ih h = ih h

-- ---- they are in the plan

all_in : (plan : PlanView) → IsWithinLimits plan → list_all (is_in_plan (start_of plan)) (all_spans plan) ≡ true
all_in plan limits =
    all_flat (is_in_plan (start_of plan)) (λ g. map (span_at plan g) (range_with_len 0 (size plan.groups g))) 0 (length plan.groups) (λ g from to.
    all_map (is_in_plan (start_of plan)) (span_at plan g) 0 (size plan.groups g) (λ i a b.
    let within : i < size plan.groups g = omega (arith, b) in
    let same = size_start plan.rounds plan.groups g in
    let some = limits.span_from g i within in
    let few = limits.span_to g i within in
    grind (arith, nat_tests, within, same, some, few)))

pub spans_in : (plan : PlanView) → IsWithinLimits plan → list_all (is_in_plan (start_of plan)) (partial_spans plan) ≡ true
unfolding partial_spans
spans_in plan limits = keep_all (is_in_plan (start_of plan)) (is_partial plan) (all_spans plan) (all_in plan limits)

small_from : (plan : PlanView) → IsWithinLimits plan → (spans : List Span) → list_all (is_in_plan (start_of plan)) spans ≡ true → AllSmall spans
small_from plan limits [] h = tt
small_from plan limits (s ∷ ss) h =
    let b = and_parts (is_in_plan (start_of plan) s) (list_all (is_in_plan (start_of plan)) ss) h in
    let same = size_start plan.rounds plan.groups s.group in
    let meter : s.meter < size (start_of plan).groups s.group = grind (arith, nat_tests, b.0) in
    let order : s.from < s.until = grind (arith, nat_tests, b.0) in
    let last : s.until ≤ plan.rounds = grind (arith, nat_tests, b.0) in
    let within : s.meter < size plan.groups s.group = omega (arith, meter, same) in
    let group = group-lt plan.groups s.group s.meter within in
    let few = limits.groups in
    let meters = limits.meters s.group in
    let rounds = limits.rounds in
    ((omega (arith, group, few), omega (arith, within, meters), omega (arith, order, last, rounds), omega (arith, last, rounds)), small_from plan limits ss b.1)

pub spans_small : (plan : PlanView) → IsWithinLimits plan → AllSmall (partial_spans plan)
spans_small plan limits = small_from plan limits (partial_spans plan) (spans_in plan limits)

-- ---- each meter has one

abbrev same_meter : Span → Span → Bool
same_meter s t = is_of s.group s.meter t

abbrev group_tag : Span → ℕ
group_tag s = s.group

abbrev meter_tag : Span → ℕ
meter_tag s = s.meter

by_group : Respects same_meter group_tag
by_group s t same = grind (arith, nat_tests, same)

by_meter : Respects same_meter meter_tag
by_meter s t same = grind (arith, nat_tests, same)

pub spans_distinct : (plan : PlanView) → Distinct same_meter (partial_spans plan)
unfolding partial_spans
spans_distinct plan =
    keep_distinct same_meter (is_partial plan) (all_spans plan)
    (distinct_flat same_meter group_tag by_group (λ g. map (span_at plan g) (range_with_len 0 (size plan.groups g)))
    (λ g. tagged_map group_tag g (span_at plan g) (λ j. refl) 0 (size plan.groups g))
    (λ g. distinct_map same_meter meter_tag by_meter (span_at plan g) (λ k. refl) 0 (size plan.groups g)) 0 (length plan.groups))

-- none of these is of a meter that has one before
abbrev Fresh : List Span → List Span → Type 0
Fresh before [] = Unit {0}
Fresh before (s ∷ ss) = (list_any (is_of s.group s.meter) before ≡ false) × Fresh before ss

flipped : (s t : Span) → same_meter s t ≡ false → same_meter t s ≡ false
flipped s t h = grind (arith, nat_tests, h)

none_push : {X : Type 0} (p : X → Bool) (xs : List X) (x : X) → list_any p xs ≡ false → p x ≡ false → list_any p (xs ++ x ∷ []) ≡ false
none_push p [] x h k = rw k refl
none_push p (y ∷ ys) x h k = let b = neither (p y) (list_any p ys) h in rw (b.0, none_push p ys x b.1 k) refl

fresh_push : (before : List Span) (s : Span) (ss : List Span) → Fresh before ss → list_any (same_meter s) ss ≡ false → Fresh (before ++ s ∷ []) ss
fresh_push before s [] fresh other = tt
fresh_push before s (t ∷ ts) fresh other =
    let b = neither (same_meter s t) (list_any (same_meter s) ts) other in
    (none_push (is_of t.group t.meter) before s fresh.0 (flipped s t b.0), fresh_push before s ts fresh.1 b.1)

none_before : (ss : List Span) → Fresh [] ss
none_before [] = tt
none_before (s ∷ ss) = (refl, none_before ss)

no_fault : (plan : PlanView) (before spans : List Span) → list_all (is_in_plan plan) spans ≡ true → Distinct same_meter spans → Fresh before spans → span_fault_from plan before spans ≡ None
unfolding span_fault_from
no_fault plan before [] inside once fresh = refl
no_fault plan before (s ∷ ss) inside once fresh =
    let b = and_parts (is_in_plan plan s) (list_all (is_in_plan plan) ss) inside in
    rw (b.0, fresh.0) (no_fault plan (before ++ s ∷ []) ss b.1 once.1 (fresh_push before s ss fresh.1 once.0))

pub spans_right : (plan : PlanView) → IsWithinLimits plan → span_fault (start_of plan) (partial_spans plan) ≡ None
spans_right plan limits = no_fault (start_of plan) [] (partial_spans plan) (spans_in plan limits) (spans_distinct plan) (none_before (partial_spans plan))

-- ---- each meter is given its own

-- each has the rounds of its meter
abbrev Own : PlanView → List Span → Type 0
Own plan [] = Unit {0}
Own plan (s ∷ ss) = (rounds_of s ≡ span_of plan.groups s.group s.meter) × Own plan ss

own_append : (plan : PlanView) (ss ts : List Span) → Own plan ss → Own plan ts → Own plan (ss ++ ts)
own_append plan [] ts h k = k
own_append plan (s ∷ ss) ts h k = (h.0, own_append plan ss ts h.1 k)

own_group : (plan : PlanView) (g a n : ℕ) → Own plan (map (span_at plan g) (range_with_len a n))
own_group plan g a zero = tt
own_group plan g a (suc n) = (refl, own_group plan g (a + 1) n)

own_all : (plan : PlanView) (a n : ℕ) → Own plan (flat_map (λ g. map (span_at plan g) (range_with_len 0 (size plan.groups g))) (range_with_len a n))
own_all plan a zero = tt
own_all plan a (suc n) = own_append plan (map (span_at plan a) (range_with_len 0 (size plan.groups a))) _ (own_group plan a 0 (size plan.groups a)) (own_all plan (a + 1) n)

own_kept : (plan : PlanView) (q : Span → Bool) (ss : List Span) → Own plan ss → Own plan (filter q ss)
own_kept plan q [] h = tt
own_kept plan q (s ∷ ss) h = by_test (q s) (own_kept plan q ss h.1)
  where
    by_test : (t : Bool) → Own plan (filter q ss) → Own plan (cond t (s ∷ filter q ss) (filter q ss))
    by_test true ih = (h.0, ih)
    by_test false ih = ih

given_own : (plan : PlanView) (g i : ℕ) (ss : List Span) → Own plan ss → (list_any (is_of g i) ss ≡ false → whole plan.rounds ≡ span_of plan.groups g i)
    → rounds_given plan.rounds ss g i ≡ span_of plan.groups g i
unfolding rounds_given
given_own plan g i [] own none = none refl
given_own plan g i (s ∷ ss) own none = by_test (is_of g i s) refl (λ n. given_own plan g i ss own.1 n) none
  where
    by_test : (t : Bool) → is_of g i s ≡ t → ((list_any (is_of g i) ss ≡ false → whole plan.rounds ≡ span_of plan.groups g i) → rounds_given plan.rounds ss g i ≡ span_of plan.groups g i)
        → ((t || list_any (is_of g i) ss) ≡ false → whole plan.rounds ≡ span_of plan.groups g i)
        → (if t then rounds_of s else rounds_given plan.rounds ss g i) ≡ span_of plan.groups g i
    by_test true e ih none =
        let group : s.group ≡ g = grind (arith, nat_tests, e) in
        let meter : s.meter ≡ i = grind (arith, nat_tests, e) in
        own.0 ∙ (ap (λ a. span_of plan.groups a s.meter) group ∙ ap (λ b. span_of plan.groups g b) meter)
    by_test false e ih none = ih none

-- a span that leaves out no round is the whole
whole_is : (plan : PlanView) (g i : ℕ) → is_partial plan (span_at plan g i) ≡ false → whole plan.rounds ≡ span_of plan.groups g i
whole_is plan g i h =
    let from : 0 ≡ (span_of plan.groups g i).from = grind (arith, nat_tests, h) in
    let until : plan.rounds ≡ (span_of plan.groups g i).until = grind (arith, nat_tests, h) in
    let made : ℕ → ℕ → Rounds = λ a b. record { from = a; until = b } in
    ap (λ a. made a plan.rounds) from ∙ ap (made (span_of plan.groups g i).from) until

pub spans_given : (plan : PlanView) (g i : ℕ) → g < length plan.groups → i < size plan.groups g → rounds_given plan.rounds (partial_spans plan) g i ≡ span_of plan.groups g i
unfolding partial_spans
spans_given plan g i lt within =
    given_own plan g i (partial_spans plan) (own_kept plan (is_partial plan) (all_spans plan) (own_all plan 0 (length plan.groups)))
    (λ none. by_test (is_partial plan (span_at plan g i)) refl none)
  where
    here : is_partial plan (span_at plan g i) ≡ true → list_any (is_of g i) (filter (is_partial plan) (all_spans plan)) ≡ true
    here partial =
        let own : is_of g i (span_at plan g i) ≡ true = grind (arith, nat_tests) in
        keep_any (is_of g i) (is_partial plan) (all_spans plan)
        (any_flat (λ s. is_partial plan s && is_of g i s) (λ h. map (span_at plan h) (range_with_len 0 (size plan.groups h))) 0 (length plan.groups) g (omega arith) (omega (arith, lt))
        (any_map (λ s. is_partial plan s && is_of g i s) (span_at plan g) 0 (size plan.groups g) i (omega arith) (omega (arith, within)) (both_true _ _ partial own)))

    by_test : (t : Bool) → is_partial plan (span_at plan g i) ≡ t → list_any (is_of g i) (filter (is_partial plan) (all_spans plan)) ≡ false → whole plan.rounds ≡ span_of plan.groups g i
    by_test true e none = let some = here e in absurd cc
    by_test false e none = whole_is plan g i e

-- ---- the groups

nothing : Group
nothing = record { name = []; floor = 0; spans = [] }

-- a group that is stated, with whole spans
stated_at : (rounds : ℕ) (groups : List Group) (g : ℕ) → g < length groups → slice_get (map (group_of rounds) (map stated groups)) g ≡ Some (group_of rounds (stated (get_or groups g nothing)))
stated_at rounds [] g lt = absurd (omega (arith, lt))
stated_at rounds (x ∷ xs) zero lt = refl
stated_at rounds (x ∷ xs) (suc g) lt = stated_at rounds xs g (omega (arith, lt))

group_again : (plan : PlanView) (g : ℕ) → g < length plan.groups → get_or plan.groups g nothing ≡ group_with (start_of plan) (partial_spans plan) g
group_again plan g lt =
    let x : Group = get_or plan.groups g nothing in
    let here : slice_get plan.groups g ≡ Some x = slice_get-get_or plan.groups g nothing lt in
    let there : slice_get (start_of plan).groups g ≡ Some (group_of plan.rounds (stated x)) = stated_at plan.rounds plan.groups g lt in
    let f : ℕ → Rounds = rounds_given plan.rounds (partial_spans plan) g in
    let sized : size plan.groups g ≡ length x.spans = ap size_or here in
    let own : (i : ℕ) → i < length x.spans → get_or x.spans i (record { from = 0; until = 0 }) ≡ f i =
    λ i is. sym (ap (λ o. span_or o i) here) ∙ sym (spans_given plan g i lt (omega (arith, is, sized))) in
    let spans : x.spans ≡ map f (range_with_len 0 (length x.spans)) = fill_by_all f x.spans (length x.spans) (record { from = 0; until = 0 }) refl own in
    let long : length x.spans ≡ size (start_of plan).groups g = sym sized ∙ sym (size_start plan.rounds plan.groups g) in
    let made : List ℕ → ℕ → List Rounds → Group = λ name floor rounds. record { name = name; floor = floor; spans = rounds } in
    ap (made x.name x.floor) (spans ∙ ap (λ n. map f (range_with_len 0 n)) long)
    ∙ ap (λ (o : Option Group). made (name_or o) (floor_or o) (map f (range_with_len 0 (size (start_of plan).groups g)))) (sym there)

pub plan_again : (plan : PlanView) → with_spans (start_of plan) (partial_spans plan) ≡ plan
plan_again plan =
    let start = start_of plan in
    let long : length plan.groups ≡ length start.groups = sym (length-map (map stated plan.groups) (group_of plan.rounds) ∙ length-map plan.groups stated) in
    let groups : plan.groups ≡ (with_spans start (partial_spans plan)).groups =
    fill_by_all (group_with start (partial_spans plan)) plan.groups (length start.groups) nothing long (λ g lt. group_again plan g (omega (arith, lt, long))) in
    ap (λ gs. record plan { groups = gs }) (sym groups)
