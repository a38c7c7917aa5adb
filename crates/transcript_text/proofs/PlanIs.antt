-- The plan of a head that is read is one within the limits.
use Rattle.std.proofs.Common.{◌≡◌, ◌∙◌, ◌<◌, ◌≤◌, ℕ, Bool, true, false, cond, List, [], ◌∷◌, map, ap, arith, Option, Some, None, subst, sym}
use Rattle.group_plan.specs.declared.plan.GroupPlan.{GroupPlan}
use Rattle.group_plan.specs.declared.plan.members.Span.{Span}
use Rattle.group_plan.specs.Plans.{PlanView, Rounds, size, span_of}
use Rattle.group_plan.specs.NewPlans.{AreNamed, first_fault, plan_of, stated}
use Rattle.group_plan.specs.PlanParts.{AreSpans}
use Rattle.group_plan.specs.Spans.{is_of, rounds_given, rounds_of, with_spans}
use Rattle.group_plan.proofs.Limits.{are_right, limits, right_rounds}
use Rattle.group_plan.proofs.WithSpans.{size-with, span-with}
use Rattle.event_schedule.specs.Transcripts.{IsPlan}
use Rattle.transcript_text.specs.Heads.{AreStated}
use Rattle.transcript_text.proofs.SpanFaults.{fitting}

-- rounds of a plan, one of them at least
abbrev AreRounds : ℕ → Rounds → Type 0
AreRounds rounds r = (r.from < r.until) × (r.until ≤ rounds)

given_right : (rounds : ℕ) (groups : List GroupPlan) (last : Option Span) (spans : List Span) → AreStated rounds groups last spans → 1 ≤ rounds → (g i : ℕ) → AreRounds rounds (rounds_given rounds spans g i)
unfolding rounds_given
given_right rounds groups last [] are some g i = (omega (arith, some), omega arith)
given_right rounds groups last (s ∷ ss) are some g i = by_test (is_of g i s) (given_right rounds groups (Some s) ss are.1 some g i)
  where
    by_test : (b : Bool) → AreRounds rounds (rounds_given rounds ss g i) → AreRounds rounds (cond b (rounds_of s) (rounds_given rounds ss g i))
    by_test true later = let fits = fitting rounds groups last s are.0 in (fits.some, fits.until)
    by_test false later = later

pub plan_is : (groups : List GroupPlan) (rounds w1 w2 : ℕ) (spans : List Span) → first_fault groups rounds w1 w2 ≡ None → AreNamed groups → AreStated rounds groups None spans
    → map stated (with_spans (plan_of groups rounds w1 w2) spans).groups ≡ groups → IsPlan (with_spans (plan_of groups rounds w1 w2) spans)
plan_is groups rounds w1 w2 spans sound named given same =
    let plan : PlanView = plan_of groups rounds w1 w2 in
    let some = (right_rounds rounds (are_right groups rounds w1 w2 sound).round).0 in
    let meter : (g i : ℕ) → i < size (with_spans plan spans).groups g → AreRounds rounds (span_of (with_spans plan spans).groups g i) = λ g i lt.
    (let inside : i < size plan.groups g = omega (arith, lt, size-with plan spans g) in
    subst (AreRounds rounds) (sym (span-with plan spans g i inside)) (given_right rounds groups None spans given some g i)) in
    let spans_are : AreSpans (with_spans plan spans) = record { some = λ g i lt. (meter g i lt).0; within = λ g i lt. (meter g i lt).1 } in
    let sound_is : first_fault (map stated (with_spans plan spans).groups) rounds w1 w2 ≡ None = ap (λ gs. first_fault gs rounds w1 w2) same ∙ sound in
    record { sound = sound_is; limits = limits (with_spans plan spans) sound_is (subst AreNamed (sym same) named) spans_are }
