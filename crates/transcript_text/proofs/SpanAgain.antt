-- The spans that a plan states: a head may have them, and the plan that is made of them is that plan.
use Rattle.std.proofs.Common.{◌≡◌, ◌∙◌, ◌<◌, ◌≤◌, ◌+◌, ◌==◌, ◌&&◌, ◌||◌, not, nat_lt, nat_le, ℕ, zero, suc, Bool, true, false, cond, List, [], ◌∷◌, ◌++◌, length, map, filter, replicate, get_or, refl, sym, ap, arith, Option, Some, None, subst}
use Rattle.std.specs.Prelude.{slice_get}
use Rattle.std.specs.List.{flat_map, range_with_len}
use Rattle.std.proofs.lemmas.Bool.Decides.{nat_tests}
use Rattle.std.proofs.lemmas.List.{length-map, length-replicate}
use Rattle.std.proofs.lemmas.Option.{slice_get-get_or}
use Rattle.std.proofs.lemmas.List.FromFn.{fill_by_all}
use Rattle.group_plan.specs.declared.plan.members.Span.{Span}
use Rattle.group_plan.specs.Plans.{Group, IsWithinLimits, PlanView, Rounds, floor_or, name_or, size, size_or, span_of, span_or}
use Rattle.group_plan.specs.NewPlans.{group_of, plan_of, stated, whole}
use Rattle.group_plan.specs.Spans.{group_with, is_of, rounds_given, with_spans}
use Rattle.transcript_text.specs.Spelling.{is_partial, span_at, spans_below, stated_spans}
use Rattle.transcript_text.specs.Heads.{AreStated, comes_after, meters_at, span_fits}
use Rattle.transcript_text.proofs.Choices.{test_of}
use Rattle.transcript_text.proofs.SpanWalk.{given_first, given_next}

-- the stated spans of n meters of group g, from meter i on
abbrev row : PlanView → ℕ → ℕ → ℕ → List Span
row plan g i n = filter (is_partial plan.rounds) (map (span_at plan g) (range_with_len i n))

-- the stated spans of n groups, from group g on
abbrev rows : PlanView → ℕ → ℕ → List Span
rows plan g n = flat_map (λ h. spans_below plan h (size plan.groups h)) (range_with_len g n)

-- ---- a head may have them

-- the last span, where there is one, is of an earlier place
abbrev Precedes : Option Span → ℕ → ℕ → Type 0
Precedes None g i = Unit {0}
Precedes (Some s) g i = (nat_lt s.group g || ((s.group == g) && nat_lt s.meter i)) ≡ true

after_it : (last : Option Span) (s : Span) → Precedes last s.group s.meter → comes_after last s ≡ true
after_it None s p = refl
after_it (Some t) s p = p

precedes_on : (last : Option Span) (g i : ℕ) → Precedes last g i → Precedes last g (i + 1)
precedes_on None g i p = tt
precedes_on (Some s) g i p = grind (arith, nat_tests, p)

precedes_next : (last : Option Span) (g i : ℕ) → Precedes last g i → Precedes last (g + 1) 0
precedes_next None g i p = tt
precedes_next (Some s) g i p = grind (arith, nat_tests, p)

precedes_self : (plan : PlanView) (g i : ℕ) → Precedes (Some (span_at plan g i)) g (i + 1)
precedes_self plan g i = grind (arith, nat_tests)

pub meters_stated : (groups : List Group) (g : ℕ) → meters_at (map stated groups) g ≡ size groups g
meters_stated [] g = refl
meters_stated (x ∷ xs) zero = refl
meters_stated (x ∷ xs) (suc g) = meters_stated xs g

fits : (plan : PlanView) → IsWithinLimits plan → (g i : ℕ) (last : Option Span) → i < size plan.groups g → is_partial plan.rounds (span_at plan g i) ≡ true → Precedes last g i
    → span_fits plan.rounds (map stated plan.groups) last (span_at plan g i) ≡ true
fits plan limits g i last lt partial p =
    let some = limits.span_from g i lt in
    let most = limits.span_to g i lt in
    let m = meters_stated plan.groups g in
    let a : nat_lt i (size plan.groups g) ≡ true = grind (arith, nat_tests, lt) in
    let b : nat_lt (span_of plan.groups g i).from (span_of plan.groups g i).until ≡ true = grind (arith, nat_tests, some) in
    let c : nat_le (span_of plan.groups g i).until plan.rounds ≡ true = grind (arith, nat_tests, most) in
    rw (m, a, b, c, partial, after_it last (span_at plan g i) p) refl

row_stated : (plan : PlanView) → IsWithinLimits plan → (g i n : ℕ) (last : Option Span) (more : List Span) → i + n ≤ size plan.groups g → Precedes last g i
    → ((l : Option Span) → Precedes l g (i + n) → AreStated plan.rounds (map stated plan.groups) l more) → AreStated plan.rounds (map stated plan.groups) last (row plan g i n ++ more)
row_stated plan limits g i zero last more le p rest = rest last (subst (λ k. Precedes last g k) (omega arith) p)
row_stated plan limits g i (suc n) last more le p rest =
    by_test (is_partial plan.rounds (span_at plan g i)) refl (λ l q. row_stated plan limits g (i + 1) n l more (omega (arith, le)) q (λ k r. rest k (subst (λ j. Precedes k g j) (omega arith) r)))
  where
    by_test : (b : Bool) → is_partial plan.rounds (span_at plan g i) ≡ b
        → ((l : Option Span) → Precedes l g (i + 1) → AreStated plan.rounds (map stated plan.groups) l (row plan g (i + 1) n ++ more))
        → AreStated plan.rounds (map stated plan.groups) last (cond b (span_at plan g i ∷ row plan g (i + 1) n) (row plan g (i + 1) n) ++ more)
    by_test true t ih = (fits plan limits g i last (omega (arith, le)) t p, ih (Some (span_at plan g i)) (precedes_self plan g i))
    by_test false t ih = ih last (precedes_on last g i p)

rows_stated : (plan : PlanView) → IsWithinLimits plan → (g n : ℕ) (last : Option Span) → Precedes last g 0 → AreStated plan.rounds (map stated plan.groups) last (rows plan g n)
rows_stated plan limits g zero last p = tt
rows_stated plan limits g (suc n) last p =
    row_stated plan limits g 0 (size plan.groups g) last (rows plan (g + 1) n) (omega arith) p (λ l q. rows_stated plan limits (g + 1) n l (precedes_next l g (0 + size plan.groups g) q))

-- what a plan states, a head may have
pub stated_fit : (plan : PlanView) → IsWithinLimits plan → AreStated plan.rounds (map stated plan.groups) None (stated_spans plan)
unfolding stated_spans
stated_fit plan limits = rows_stated plan limits 0 (length plan.groups) None tt

-- ---- the plan that is made of them

whole_is : (plan : PlanView) (g i : ℕ) → is_partial plan.rounds (span_at plan g i) ≡ false → span_of plan.groups g i ≡ whole plan.rounds
whole_is plan g i h = by_test (((span_of plan.groups g i).from == 0) && ((span_of plan.groups g i).until == plan.rounds)) refl h
  where
    by_test : (b : Bool) → (((span_of plan.groups g i).from == 0) && ((span_of plan.groups g i).until == plan.rounds)) ≡ b → not b ≡ false → span_of plan.groups g i ≡ whole plan.rounds
    by_test true t h =
        let p = test_of ((span_of plan.groups g i).from == 0) ((span_of plan.groups g i).until == plan.rounds) t in
        let from : (span_of plan.groups g i).from ≡ 0 = grind (arith, nat_tests, p.0) in
        let until : (span_of plan.groups g i).until ≡ plan.rounds = grind (arith, nat_tests, p.1) in
        let made : ℕ → ℕ → Rounds = λ a b. record { from = a; until = b } in
        ap (λ a. made a (span_of plan.groups g i).until) from ∙ ap (λ b. made 0 b) until
    by_test false t h = absurd cc

-- spans of other meters give nothing
given_past : (plan : PlanView) (more : List Span) (a b g i n : ℕ) → ((j : ℕ) → i ≤ j → is_of a b (span_at plan g j) ≡ false)
    → rounds_given plan.rounds (row plan g i n ++ more) a b ≡ rounds_given plan.rounds more a b
given_past plan more a b g i zero other = refl
given_past plan more a b g i (suc n) other = by_test (is_partial plan.rounds (span_at plan g i)) (given_past plan more a b g (i + 1) n (λ j le. other j (omega (arith, le))))
  where
    by_test : (t : Bool) → rounds_given plan.rounds (row plan g (i + 1) n ++ more) a b ≡ rounds_given plan.rounds more a b
        → rounds_given plan.rounds (cond t (span_at plan g i ∷ row plan g (i + 1) n) (row plan g (i + 1) n) ++ more) a b ≡ rounds_given plan.rounds more a b
    by_test true ih = given_next plan.rounds a b (span_at plan g i) (row plan g (i + 1) n ++ more) (other i (omega arith)) ∙ ih
    by_test false ih = ih

-- a meter gets its own span, or all rounds where no span is given
given_here : (plan : PlanView) (more : List Span) (g b i n : ℕ) → i ≤ b → b < i + n → rounds_given plan.rounds more g b ≡ whole plan.rounds
    → rounds_given plan.rounds (row plan g i n ++ more) g b ≡ span_of plan.groups g b
given_here plan more g b i zero le lt none = absurd (omega (arith, le, lt))
given_here plan more g b i (suc n) le lt none = by_place (i == b) refl (is_partial plan.rounds (span_at plan g i)) refl (λ l. given_here plan more g b (i + 1) n l (omega (arith, lt)) none)
  where
    by_place : (e : Bool) → (i == b) ≡ e → (t : Bool) → is_partial plan.rounds (span_at plan g i) ≡ t
        → (i + 1 ≤ b → rounds_given plan.rounds (row plan g (i + 1) n ++ more) g b ≡ span_of plan.groups g b)
        → rounds_given plan.rounds (cond t (span_at plan g i ∷ row plan g (i + 1) n) (row plan g (i + 1) n) ++ more) g b ≡ span_of plan.groups g b
    by_place true e true t ih =
        let same : i ≡ b = grind (arith, nat_tests, e) in
        let own : is_of g b (span_at plan g i) ≡ true = grind (arith, nat_tests, e) in
        given_first plan.rounds g b (span_at plan g i) (row plan g (i + 1) n ++ more) own ∙ ap (span_of plan.groups g) same
    by_place true e false t ih =
        let same : i ≡ b = grind (arith, nat_tests, e) in
        given_past plan more g b g (i + 1) n (λ j l. grind (arith, nat_tests, e, l)) ∙ none ∙ sym (whole_is plan g i t) ∙ ap (span_of plan.groups g) same
    by_place false e true t ih =
        let other : is_of g b (span_at plan g i) ≡ false = grind (arith, nat_tests, e) in
        given_next plan.rounds g b (span_at plan g i) (row plan g (i + 1) n ++ more) other ∙ ih (grind (arith, nat_tests, e, le))
    by_place false e false t ih = ih (grind (arith, nat_tests, e, le))

-- later groups give nothing
none_given : (plan : PlanView) (a b g n : ℕ) → a < g → rounds_given plan.rounds (rows plan g n) a b ≡ whole plan.rounds
unfolding rounds_given
none_given plan a b g zero lt = refl
none_given plan a b g (suc n) lt =
    given_past plan (rows plan (g + 1) n) a b g 0 (size plan.groups g) (λ j le. grind (arith, nat_tests, lt)) ∙ none_given plan a b (g + 1) n (omega (arith, lt))

rows_given : (plan : PlanView) (a b g n : ℕ) → g ≤ a → a < g + n → b < size plan.groups a → rounds_given plan.rounds (rows plan g n) a b ≡ span_of plan.groups a b
rows_given plan a b g zero le lt is = absurd (omega (arith, le, lt))
rows_given plan a b g (suc n) le lt is = by_group (g == a) refl (λ l. rows_given plan a b (g + 1) n l (omega (arith, lt)) is)
  where
    by_group : (e : Bool) → (g == a) ≡ e → (g + 1 ≤ a → rounds_given plan.rounds (rows plan (g + 1) n) a b ≡ span_of plan.groups a b)
        → rounds_given plan.rounds (row plan g 0 (size plan.groups g) ++ rows plan (g + 1) n) a b ≡ span_of plan.groups a b
    by_group true e ih =
        let same : g ≡ a = grind (arith, nat_tests, e) in
        let here : (h : ℕ) → g ≡ h → b < size plan.groups h → rounds_given plan.rounds (rows plan (g + 1) n) h b ≡ whole plan.rounds
        → rounds_given plan.rounds (row plan h 0 (size plan.groups h) ++ rows plan (g + 1) n) h b ≡ span_of plan.groups h b =
        λ h s lt none. given_here plan (rows plan (g + 1) n) h b 0 (size plan.groups h) (omega arith) (omega (arith, lt)) none in
        ap (λ h. rounds_given plan.rounds (row plan h 0 (size plan.groups h) ++ rows plan (g + 1) n) a b) same
        ∙ here a same is (none_given plan a b (g + 1) n (omega (arith, same)))
    by_group false e ih =
        given_past plan (rows plan (g + 1) n) a b g 0 (size plan.groups g) (λ j l. grind (arith, nat_tests, e)) ∙ ih (grind (arith, nat_tests, e, le))

-- each meter is given its own span
stated_given : (plan : PlanView) (g i : ℕ) → g < length plan.groups → i < size plan.groups g → rounds_given plan.rounds (stated_spans plan) g i ≡ span_of plan.groups g i
unfolding stated_spans
stated_given plan g i lt is = rows_given plan g i 0 (length plan.groups) (omega arith) (omega (arith, lt)) is

-- ---- its groups

nothing : Group
nothing = record { name = []; floor = 0; spans = [] }

-- a group that is stated, with whole spans
planned_at : (rounds : ℕ) (groups : List Group) (g : ℕ) → g < length groups → slice_get (map (group_of rounds) (map stated groups)) g ≡ Some (group_of rounds (stated (get_or groups g nothing)))
planned_at rounds [] g lt = absurd (omega (arith, lt))
planned_at rounds (x ∷ xs) zero lt = refl
planned_at rounds (x ∷ xs) (suc g) lt = planned_at rounds xs g (omega (arith, lt))

one_group : (plan : PlanView) (g : ℕ) → g < length plan.groups
    → get_or plan.groups g nothing ≡ group_with (plan_of (map stated plan.groups) plan.rounds plan.w1 plan.w2) (stated_spans plan) g
one_group plan g lt =
    let x : Group = get_or plan.groups g nothing in
    let here : slice_get plan.groups g ≡ Some x = slice_get-get_or plan.groups g nothing lt in
    let there : slice_get (map (group_of plan.rounds) (map stated plan.groups)) g ≡ Some (group_of plan.rounds (stated x)) = planned_at plan.rounds plan.groups g lt in
    let f : ℕ → Rounds = rounds_given plan.rounds (stated_spans plan) g in
    let sized : size plan.groups g ≡ length x.spans = ap size_or here in
    let own : (i : ℕ) → i < length x.spans → get_or x.spans i (record { from = 0; until = 0 }) ≡ f i =
    λ i is. sym (ap (λ o. span_or o i) here) ∙ sym (stated_given plan g i lt (omega (arith, is, sized))) in
    let spans : x.spans ≡ map f (range_with_len 0 (length x.spans)) = fill_by_all f x.spans (length x.spans) (record { from = 0; until = 0 }) refl own in
    let long : length x.spans ≡ length (replicate (length x.spans) (whole plan.rounds)) = sym (length-replicate (length x.spans) (whole plan.rounds)) in
    let made : List ℕ → ℕ → List Rounds → Group = λ name floor rounds. record { name = name; floor = floor; spans = rounds } in
    ap (made x.name x.floor) (spans ∙ ap (λ n. map f (range_with_len 0 n)) long)
    ∙ ap (λ (o : Option Group). made (name_or o) (floor_or o) (map f (range_with_len 0 (size_or o)))) (sym there)

-- the plan that is made of what a plan states is that plan
pub plan_again : (plan : PlanView) → with_spans (plan_of (map stated plan.groups) plan.rounds plan.w1 plan.w2) (stated_spans plan) ≡ plan
plan_again plan =
    let start : PlanView = plan_of (map stated plan.groups) plan.rounds plan.w1 plan.w2 in
    let long : length plan.groups ≡ length start.groups = sym (length-map (map stated plan.groups) (group_of plan.rounds) ∙ length-map plan.groups stated) in
    let groups : plan.groups ≡ (with_spans start (stated_spans plan)).groups =
    fill_by_all (group_with start (stated_spans plan)) plan.groups (length start.groups) nothing long (λ g lt. one_group plan g (omega (arith, lt, long))) in
    ap (λ gs. record plan { groups = gs }) (sym groups)
