-- The plan that has been given spans.
use Rattle.std.proofs.Common.{◌≡◌, ℕ, ◌+◌, ◌<◌, ◌≤◌, List, [], length, map, take, drop, get_or, refl, sym, ap, ◌∙◌, subst, inl, inr, arith, length-take-le}
use Rattle.std.specs.Prelude.{slice_get, Some}
use Rattle.std.specs.List.{range_with_len}
use Rattle.std.proofs.lemmas.Bool.{cases_lt}
use Rattle.std.proofs.lemmas.List.{get_or-take, get_or-drop, get_or_default, length-drop}
use Rattle.std.proofs.lemmas.List.Sums.{sum_by_more, sum_by-take-le}
use Rattle.std.proofs.lemmas.List.FromFn.{fill_by_all, get_or-map-range_with_len, length-map-range_with_len}
use Rattle.std.proofs.lemmas.Option.{get_or_from_slice_get, slice_get-get_or, slice_get_past}
use Rattle.group_plan.specs.Plans.{Rounds, Group, PlanView, size, size_or, name_or, floor_or, span_of, span_or, all_meters}
use Rattle.group_plan.specs.Places.{meter_at}
use Rattle.group_plan.specs.NewPlans.{AreNamed, whole, meters_of}
use Rattle.group_plan.specs.declared.plan.GroupPlan.{GroupPlan}
use Rattle.group_plan.specs.declared.plan.Plan.TheInside.{Inside}
use Rattle.group_plan.specs.declared.plan.members.Span.{Span}
use Rattle.group_plan.specs.PlanParts.{plan, KeepsPlan, AreSpans}
use Rattle.group_plan.specs.Spans.{rounds_given, group_with, with_spans, AreGiven}
use Rattle.group_plan.proofs.Groups.{group_at, groups_of-at, start-groups_of}
use Rattle.group_plan.proofs.Limits.{none}
use Rattle.group_plan.proofs.Kept.{length_is, size_is, meters_are}
use Rattle.group_plan.proofs.MeterNumbers.{group-lt, meter_at-lt}

nothing : Group
nothing = record { name = []; floor = 0; spans = [] }

-- ---- its groups

pub with-at : (plan : PlanView) (spans : List Span) (g : ℕ) → g < length plan.groups → slice_get (with_spans plan spans).groups g ≡ Some (group_with plan spans g)
with-at plan spans g lt =
    slice_get-get_or (with_spans plan spans).groups g nothing (omega (arith, lt, length-map-range_with_len (group_with plan spans) 0 (length plan.groups)))
    ∙ ap Some (get_or-map-range_with_len (group_with plan spans) 0 (length plan.groups) g g nothing lt (omega arith))

pub length-with : (plan : PlanView) (spans : List Span) → length (with_spans plan spans).groups ≡ length plan.groups
length-with plan spans = length-map-range_with_len (group_with plan spans) 0 (length plan.groups)

pub size-with : (plan : PlanView) (spans : List Span) (g : ℕ) → size (with_spans plan spans).groups g ≡ size plan.groups g
size-with plan spans g =
    elim (cases_lt g (length plan.groups)) [
      | inl lt ↦ ap size_or (with-at plan spans g lt) ∙ length-map-range_with_len (rounds_given plan.rounds spans g) 0 (size plan.groups g)
      | inr le ↦ ap size_or (slice_get_past (with_spans plan spans).groups g (omega (arith, le, length-with plan spans))) ∙ sym (ap size_or (slice_get_past plan.groups g le))
    ]

pub span-with : (plan : PlanView) (spans : List Span) (g i : ℕ) → i < size plan.groups g → span_of (with_spans plan spans).groups g i ≡ rounds_given plan.rounds spans g i
span-with plan spans g i lt =
    ap (λ o. span_or o i) (with-at plan spans g (group-lt plan.groups g i lt))
    ∙ get_or-map-range_with_len (rounds_given plan.rounds spans g) 0 (size plan.groups g) i i (record { from = 0; until = 0 }) lt (omega arith)

spans_right : (plan : PlanView) (spans : List Span) (kept : List Rounds) → AreGiven plan spans kept → AreSpans (with_spans plan spans)
spans_right plan spans kept given = record {
  some = λ g i lt. let m = meter g i lt in rw (m.1) (given.some (meter_at plan.groups g i) m.0);
  within = λ g i lt. let m = meter g i lt in rw (m.1) (given.within (meter_at plan.groups g i) m.0);
}
  where
    meter : (g i : ℕ) → i < size (with_spans plan spans).groups g → (meter_at plan.groups g i < length kept) × (span_of (with_spans plan spans).groups g i ≡ get_or kept (meter_at plan.groups g i) (whole 0))
    meter g i lt =
        let inside : i < size plan.groups g = omega (arith, lt, size-with plan spans g) in
        (omega (arith, meter_at-lt plan.groups g i inside, given.long), span-with plan spans g i inside ∙ sym (given.each g i inside))

-- ---- the spans put into the parts of a plan

pub record HasSpans (p q : Inside) (spans : List Span) : Type 0 where
  pub groups : q.groups.items ≡ p.groups.items
  pub starts : q.starts.items ≡ p.starts.items
  pub rounds : q.rounds ≡ p.rounds
  pub w1 : q.w1 ≡ p.w1
  pub w2 : q.w2 ≡ p.w2
  pub given : AreGiven (plan p) spans q.spans.items

one_group : (p : Inside) (spans : List Span) (kept : List Rounds) → KeepsPlan p → AreGiven (plan p) spans kept → (g : ℕ) → g < length (plan p).groups → group_at p.groups.items kept g none ≡ group_with (plan p) spans g
one_group p spans kept keeps given g lt =
    let x = get_or p.groups.items g none in
    let s = meters_of (take g p.groups.items) in
    let below : g < length p.groups.items = omega (arith, lt, length_is p) in
    let there : slice_get (plan p).groups g ≡ Some (group_at p.groups.items p.spans.items g none) = groups_of-at p.groups.items p.spans.items g none below in
    let sized : x.meters ≡ size (plan p).groups g = size_is p (plan p) keeps refl g x below (get_or_default p.groups.items g none x below) in
    let start : all_meters (take g (plan p).groups) ≡ s = start-groups_of p.groups.items p.spans.items (omega (arith, keeps.long)) g in
    let more : meters_of (take (g + 1) p.groups.items) ≡ s + x.meters = sum_by_more (λ (y : GroupPlan). y.meters) p.groups.items g none below in
    let fits : s + x.meters ≤ length kept = omega (arith, more, sum_by-take-le (λ (y : GroupPlan). y.meters) p.groups.items (g + 1), keeps.long, meters_are p keeps, given.long) in
    let long : length (take x.meters (drop s kept)) ≡ size (plan p).groups g = length-take-le x.meters (drop s kept) (omega (arith, length-drop s kept, fits)) ∙ sized in
    let each : (k : ℕ) → k < size (plan p).groups g → get_or (take x.meters (drop s kept)) k (whole 0) ≡ rounds_given p.rounds spans g k = λ k lt.
    get_or-take x.meters (drop s kept) k (whole 0) (omega (arith, lt, sized))
    ∙ get_or-drop s kept k (whole 0)
    ∙ ap (λ n. get_or kept (n + k) (whole 0)) (sym start)
    ∙ given.each g k lt in
    let filled : take x.meters (drop s kept) ≡ map (rounds_given p.rounds spans g) (range_with_len 0 (size (plan p).groups g)) = fill_by_all (rounds_given p.rounds spans g) (take x.meters (drop s kept)) (size (plan p).groups g) (whole 0) long each in
    let made : List ℕ → ℕ → List Rounds → Group = λ name floor rounds. record { name = name; floor = floor; spans = rounds } in
    ap (made x.name x.floor) filled ∙ ap (λ o. made (name_or o) (floor_or o) (map (rounds_given p.rounds spans g) (range_with_len 0 (size (plan p).groups g)))) (sym there)

pub spans_set : (p q : Inside) (spans : List Span) → KeepsPlan p → HasSpans p q spans → plan q ≡ with_spans (plan p) spans
spans_set p q spans keeps set =
    let long : length (plan q).groups ≡ length (plan p).groups = length_is q ∙ ap length set.groups ∙ sym (length_is p) in
    let each : (g : ℕ) → g < length (plan p).groups → get_or (plan q).groups g nothing ≡ group_with (plan p) spans g = λ g lt.
    get_or_from_slice_get (plan q).groups g (group_at q.groups.items q.spans.items g none) nothing (groups_of-at q.groups.items q.spans.items g none (omega (arith, lt, long, length_is q)))
    ∙ ap (λ gs. group_at gs q.spans.items g none) set.groups
    ∙ one_group p spans q.spans.items keeps set.given g lt in
    let groups : (plan q).groups ≡ (with_spans (plan p) spans).groups = fill_by_all (group_with (plan p) spans) (plan q).groups (length (plan p).groups) nothing long each in
    let made : List Group → ℕ → ℕ → ℕ → PlanView = λ gs rounds w1 w2. record { groups = gs; rounds = rounds; w1 = w1; w2 = w2 } in
    ap (λ gs. made gs q.rounds q.w1 q.w2) groups
    ∙ ap (λ n. made (with_spans (plan p) spans).groups n q.w1 q.w2) set.rounds
    ∙ ap (λ n. made (with_spans (plan p) spans).groups p.rounds n q.w2) set.w1
    ∙ ap (λ n. made (with_spans (plan p) spans).groups p.rounds p.w1 n) set.w2

pub spans_keep : (p q : Inside) (spans : List Span) → KeepsPlan p → HasSpans p q spans → KeepsPlan q
spans_keep p q spans keeps set = record {
  sound = rw (set.groups, set.rounds, set.w1, set.w2) keeps.sound;
  named = subst AreNamed (sym set.groups) keeps.named;
  long = set.given.long ∙ meters_are p keeps ∙ keeps.long ∙ ap meters_of (sym set.groups);
  starts = rw (set.starts, set.groups) keeps.starts;
  spans = subst AreSpans (sym (spans_set p q spans keeps set)) (spans_right (plan p) spans q.spans.items set.given);
}

-- the same, of the plan `now` that p keeps
pub spans_are_set : (p q : Inside) (now : PlanView) (spans : List Span) → KeepsPlan p → plan p ≡ now → q.groups.items ≡ p.groups.items → q.starts.items ≡ p.starts.items → q.rounds ≡ p.rounds → q.w1 ≡ p.w1 → q.w2 ≡ p.w2 → AreGiven now spans q.spans.items → (KeepsPlan q) × (plan q ≡ with_spans now spans)
spans_are_set p q now spans keeps is groups starts rounds w1 w2 given =
    let set : HasSpans p q spans = record { groups = groups; starts = starts; rounds = rounds; w1 = w1; w2 = w2; given = subst (λ v. AreGiven v spans q.spans.items) (sym is) given } in
    (spans_keep p q spans keeps set, spans_set p q spans keeps set ∙ ap (λ v. with_spans v spans) is)
