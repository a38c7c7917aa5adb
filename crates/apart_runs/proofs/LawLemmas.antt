-- What the laws say, from what a plan within the limits and a reading table of it give.
use Rattle.std.proofs.Common.{◌≡◌, ℕ, ◌<◌, ◌≤◌, true, arith}
use Rattle.std.specs.Prelude.{nat_lt, nat_le, slice_get, slice_index_or, Option, Some, None}
use Rattle.std.proofs.lemmas.Bool.{false≢true, ltb-true}
use Rattle.group_plan.specs.Plans.{PlanView, Group, IsWithinLimits, size, span_or, is_member_of, is_member}
use Rattle.group_plan.proofs.MeterNumbers.{group-lt}
use Rattle.event_schedule.specs.Tables.{Readings, IsOfPlan}
use Rattle.event_schedule.specs.Transcript.{shape_of_readings}
use Rattle.event_schedule.proofs.ListLemmas.{and_last}
use Rattle.event_schedule.proofs.MemberLemmas.{is_member-below}
use Rattle.run_rows.specs.Ticks.{clock_of, posts_of, IsRunPlan}
use Rattle.run_rows.specs.Report.{fate_at}
use Rattle.run_rows.proofs.FateLemmas.{run_by}
use Rattle.run_rows.proofs.TickRun.{run_facts}
use Rattle.apart_runs.specs.Statements.{HeadEndsOfRuns, MetersOfRuns}
use Rattle.apart_runs.proofs.HeadLemmas.{at_tick}
use Rattle.apart_runs.proofs.ReplyLemmas.{replies_so}
use Rattle.apart_runs.proofs.SaysLemmas.{says_so}
use Rattle.apart_runs.proofs.ReportLemmas.{reports_so}
use Rattle.apart_runs.proofs.MeterLemmas.{meter_so}

-- the rounds of a meter's span are rounds of the plan
round_below : (o : Option Group) (r i n : ℕ) → (span_or o i).until ≤ n → is_member_of o r i ≡ true → r < n
round_below None r i n le is = absurd (false≢true is)
round_below (Some g) r i n le is =
    let span = slice_index_or g.spans i (record { from = 0; until = 0 }) in
    let lt : r < span.until = ltb-true r span.until (and_last (nat_le span.from r) (nat_lt r span.until) is) in
    omega (arith, le, lt)

can_run : (plan : PlanView) (x : Readings) → IsWithinLimits plan → IsOfPlan plan.groups x → IsRunPlan (shape_of_readings plan.groups x) (clock_of plan)
can_run plan x limits of_plan = record {
  places = λ g r i present.
      let member : is_member plan.groups g r i ≡ true = of_plan g r i present in
      let below : i < size plan.groups g = is_member-below plan.groups g r i member in
      (group-lt plan.groups g i below, round_below (slice_get plan.groups g) r i plan.rounds (limits.span_to g i below) member, member);
  first_window = let h = limits.w1_from in omega (arith, h);
  open_window = let h = limits.w2_from in omega (arith, h);
}

pub head_ends : HeadEndsOfRuns
head_ends plan x m slots entries limits of_plan bounded run =
    let can = can_run plan x limits of_plan in
    let by = run_by (shape_of_readings plan.groups x) (clock_of plan) slots entries run.delays run.run in
    record {
      passes = λ t le. (at_tick plan x m (fate_at (posts_of entries)) entries can by run.lines t).counts le;
      replies = replies_so plan x m (fate_at (posts_of entries)) entries can by run.lines;
      says = says_so plan x m (fate_at (posts_of entries)) entries can by run.lines;
      reports = reports_so plan x m (fate_at (posts_of entries)) entries can by run.lines bounded;
    }

pub meters : MetersOfRuns
meters plan x m slots entries limits of_plan bounded run part own is_part has_own =
    let can = can_run plan x limits of_plan in
    let by = run_by (shape_of_readings plan.groups x) (clock_of plan) slots entries run.delays run.run in
    meter_so plan x m (fate_at (posts_of entries)) entries can (run_facts (shape_of_readings plan.groups x) (clock_of plan) (fate_at (posts_of entries)) entries can by) run.lines bounded.readings part own is_part has_own
