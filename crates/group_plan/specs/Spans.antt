-- The spans that a plan is given for its meters, and why they are refused.
use Rattle.std.specs.Prelude.{◌≡◌, ℕ, ◌<◌, ◌≤◌, nat_le, nat_lt, Bool, not, ◌==◌, ◌&&◌, if◌then◌else◌, List, [], ◌∷◌, ◌++◌, length, map, slice_index_or, Option, Some, None, Result, Ok, Err}
use Rattle.std.specs.List.{list_any, range_with_len}
use Rattle.std.specs.Global.{Vec}
use Rattle.group_plan.specs.Plans.{Rounds, Group, PlanView, size, name_of, floor_of, all_meters}
use Rattle.group_plan.specs.Places.{meter_at}
use Rattle.group_plan.specs.NewPlans.{whole}
use Rattle.group_plan.specs.declared.plan.members.Span.{Span}
use Rattle.group_plan.specs.declared.plan.members.SpanError.{SpanError}
use Rattle.group_plan.specs.declared.plan.members.SpanError.TheVariants as fault

-- whether the plan has the span's meter, and the span some of its rounds and no other
abbrev pub is_in_plan : PlanView → Span → Bool
is_in_plan plan span = nat_lt span.meter (size plan.groups span.group) && nat_lt span.from span.until && nat_le span.until plan.rounds

-- whether the span is meter i's of group g
abbrev pub is_of : ℕ → ℕ → Span → Bool
is_of g i span = (span.group == g) && (span.meter == i)

-- the first fault of spans that come after others
unfoldable pub span_fault_from : PlanView → List Span → List Span → Option SpanError
span_fault_from plan before [] = None
span_fault_from plan before (span ∷ rest) =
    if not (is_in_plan plan span) then Some (fault.Range (length before)) else
    if list_any (is_of span.group span.meter) before then Some (fault.Twice (length before)) else
    span_fault_from plan (before ++ span ∷ []) rest

-- the first span that is wrong
abbrev pub span_fault : PlanView → List Span → Option SpanError
span_fault plan spans = span_fault_from plan [] spans

-- the rounds of a span
abbrev pub rounds_of : Span → Rounds
rounds_of span = record { from = span.from; until = span.until }

-- the rounds that are given to meter i of group g, or all rounds
unfoldable pub rounds_given : ℕ → List Span → ℕ → ℕ → Rounds
rounds_given rounds [] g i = whole rounds
rounds_given rounds (span ∷ spans) g i =
    if is_of g i span then rounds_of span else rounds_given rounds spans g i

-- group g with the rounds that are given
abbrev pub group_with : PlanView → List Span → ℕ → Group
group_with plan spans g = record {
  name = name_of plan.groups g;
  floor = floor_of plan.groups g;
  spans = map (rounds_given plan.rounds spans g) (range_with_len 0 (size plan.groups g));
}

-- the plan with these spans and none of its own
abbrev pub with_spans : PlanView → List Span → PlanView
with_spans plan spans = record plan { groups = map (group_with plan spans) (range_with_len 0 (length plan.groups)) }

-- the rounds of all meters are those that the spans give
pub record AreGiven (plan : PlanView) (spans : List Span) (kept : List Rounds) : Type 0 where
  pub long : length kept ≡ all_meters plan.groups
  pub each : (g i : ℕ) → i < size plan.groups g → slice_index_or kept (meter_at plan.groups g i) (whole 0) ≡ rounds_given plan.rounds spans g i
  pub some : (k : ℕ) → k < length kept → (slice_index_or kept k (whole 0)).from < (slice_index_or kept k (whole 0)).until
  pub within : (k : ℕ) → k < length kept → (slice_index_or kept k (whole 0)).until ≤ plan.rounds

-- the spans of all meters, or the first fault of those given; want of memory is free
abbrev pub PlacesSpans : PlanView → List Span → Result (Vec Rounds) SpanError → Type 0
PlacesSpans plan spans (Ok kept) = (span_fault plan spans ≡ None) × AreGiven plan spans kept.items
PlacesSpans plan spans (Err fault.Memory) = Unit {0}
PlacesSpans plan spans (Err e) = span_fault plan spans ≡ Some e

-- the plan gets the spans exactly where they have no fault; want of memory is free
abbrev pub SetsSpans : PlanView → List Span → Result PlanView SpanError → Type 0
SetsSpans plan spans (Ok new) = (span_fault plan spans ≡ None) × (new ≡ with_spans plan spans)
SetsSpans plan spans (Err fault.Memory) = Unit {0}
SetsSpans plan spans (Err e) = span_fault plan spans ≡ Some e
