-- The runs of a plan, whoever has a reading and whatever becomes of the frames, and the entries with which one begins.
use Rattle.std.specs.Prelude.{◌≡◌, ℕ, Bool, true, false, List, ◌++◌, All, None}
use Rattle.group_plan.specs.Plans.{PlanView}
use Rattle.link_lanes.specs.Lanes.{Slot}
use Rattle.event_schedule.specs.declared.Line.{Line}
use Rattle.event_schedule.specs.declared.Line.TheVariants.{Send}
use Rattle.event_schedule.specs.declared.Entry.{Entry}
use Rattle.event_schedule.specs.Schedule.{Shape}
use Rattle.link_lanes.specs.Fates.{IsFate}
use Rattle.run_rows.specs.Ticks.{clock_of, IsRunPlan, IsTickRun}

-- a Send without a frame: it has no effect, and no run has one
abbrev pub is_void_send : Line → Bool
is_void_send (Send tag None) = true
is_void_send _ = false

-- the shape of a plan where these places have a reading
abbrev pub shape_where : PlanView → (ℕ → ℕ → ℕ → Bool) → Shape
shape_where plan present = record { groups = plan.groups; present = present }

-- all entries of a run of the plan: a tick run for some presence within the plan and some lanes, in which each Send has a frame
pub record IsSomeRun (plan : PlanView) (entries : List Entry) : Type 0 where
  pub present : ℕ → ℕ → ℕ → Bool
  pub slots : List Slot
  pub within : IsRunPlan (shape_where plan present) (clock_of plan)
  pub run : IsTickRun (shape_where plan present) (clock_of plan) slots entries
  pub fates : All (λ e. IsFate e.fate) entries
  pub posted : All (λ e. is_void_send e.line ≡ false) entries

-- a run of the plan begins with these entries
abbrev pub BeginsRun : PlanView → List Entry → Type 0
BeginsRun plan entries = (more : List Entry) × IsSomeRun plan (entries ++ more)
