-- What the law of this crate says.
use Rattle.std.specs.Prelude.{ℕ, Bool, List, All}
use Rattle.group_plan.specs.Plans.{PlanView}
use Rattle.link_lanes.specs.Lanes.{Slot}
use Rattle.event_schedule.specs.declared.Entry.{Entry}
use Rattle.event_schedule.specs.Transcript.{Contents}
use Rattle.link_lanes.specs.Fates.{IsFate}
use Rattle.run_rows.specs.Runs.{IsRun}
use Rattle.run_rows.specs.Ticks.{clock_of, IsRunPlan}
use Rattle.run_course.specs.Beginnings.{IsSomeRun, shape_where}

-- a run of some readings, lanes and words is one whoever has a reading and whatever becomes of the frames
abbrev pub RunsAreInTime : Type 0
RunsAreInTime =
    (plan : PlanView) (present : ℕ → ℕ → ℕ → Bool) (slots : List Slot) (words : Contents) (entries : List Entry) → IsRunPlan (shape_where plan present) (clock_of plan) → All (λ e. IsFate e.fate) entries
    → IsRun (shape_where plan present) (clock_of plan) slots words entries → IsSomeRun plan entries
