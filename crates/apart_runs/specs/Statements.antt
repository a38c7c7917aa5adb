-- What the laws of this crate say. Each is proved for every plan, reading table, mask table and tick run.
use Rattle.std.specs.Prelude.{List}
use Rattle.missing_round.specs.Masks.{Masks}
use Rattle.group_plan.specs.Plans.{PlanView, IsWithinLimits}
use Rattle.link_lanes.specs.Lanes.{Slot}
use Rattle.event_schedule.specs.declared.Entry.{Entry}
use Rattle.event_schedule.specs.Tables.{Readings, IsOfPlan, IsBounded}
use Rattle.event_schedule.specs.Transcript.{shape_of_readings, contents_of_tables}
use Rattle.run_rows.specs.Ticks.{clock_of}
use Rattle.run_rows.specs.Runs.{IsRun}
use Rattle.meter_apart.specs.declared.part.Part.{Part}
use Rattle.apart_courses.specs.Steps.{IsPartOf, HasOwnWords}
use Rattle.apart_runs.specs.HeadRuns.{IsHeadEndOf}
use Rattle.apart_runs.specs.MeterRuns.{IsMeterOf}

-- a tick run of a plan with the lines of the transcript under these tables, whatever its lanes
abbrev pub IsRunOf : PlanView → Readings → Masks → List Slot → List Entry → Type 0
IsRunOf plan x m slots entries = IsRun (shape_of_readings plan.groups x) (clock_of plan) slots (contents_of_tables plan.groups x m) entries

-- the head end of every tick run is one that stands apart
abbrev pub HeadEndsOfRuns : Type 0
HeadEndsOfRuns = (plan : PlanView) (x : Readings) (m : Masks) (slots : List Slot) (entries : List Entry) → IsWithinLimits plan → IsOfPlan plan.groups x → IsBounded plan.groups x → IsRunOf plan x m slots entries → IsHeadEndOf plan x entries

-- and so is each of its meters, with its part of the plan and its own words of the mask table
abbrev pub MetersOfRuns : Type 0
MetersOfRuns = (plan : PlanView) (x : Readings) (m : Masks) (slots : List Slot) (entries : List Entry) → IsWithinLimits plan → IsOfPlan plan.groups x → IsBounded plan.groups x → IsRunOf plan x m slots entries
    → (part : Part) (own : Masks) → IsPartOf plan part.group part.meter part → HasOwnWords part.group part.meter own m → IsMeterOf part own x entries
