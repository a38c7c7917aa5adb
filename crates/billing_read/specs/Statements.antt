-- What the laws of this crate say. Each is proved for every plan, period, table and schedule.
use Rattle.std.specs.Prelude.{◌≡◌, ℕ, List, reverse, is_some}
use Rattle.group_plan.specs.Plans.{PlanView}
use Rattle.event_schedule.specs.declared.Event.{Event}
use Rattle.event_schedule.specs.declared.Line.{Line}
use Rattle.event_schedule.specs.Tables.{Readings, Masks, IsOfPlan, IsBounded}
use Rattle.event_schedule.specs.Transcript.{transcript}
use Rattle.ideal_masks.specs.Offsets.{offsets, shift, Agree}
use Rattle.billing_read.specs.declared.bills.Bill.{Bill}
use Rattle.billing_read.specs.Bills.{bills}

-- all that is told of the readings: the lines of a transcript, and the bills of a period
pub record Told : Type 0 where
  pub lines : List Line
  pub bills : List Bill

abbrev pub told : PlanView → (from until : ℕ) → Readings → Masks → List Event → Told
told plan from until x m events = record { lines = transcript plan.groups x m events; bills = bills plan from until x }

-- the tables agree and have the same bills
pub record AgreeWithBills (plan : PlanView) (from until : ℕ) (x y : Readings) (whole : List Event) : Type 0 where
  pub agree : Agree plan.groups x y whole
  pub bills : bills plan from until x ≡ bills plan from until y

-- of tables that agree and have the same bills the same is told, under every mask table and its shift
abbrev pub BillsIsolated : Type 0
BillsIsolated =
    (plan : PlanView) (from until : ℕ) (x y : Readings) (m : Masks) (events : List Event) → IsOfPlan plan.groups x
    → AgreeWithBills plan from until x y (reverse events)
    → told plan from until y (shift (offsets plan.groups x y (reverse events)) m) events ≡ told plan from until x m events

-- the converse: tables of one presence of which the same is told, under whatever masks, agree and have the same bills
abbrev pub BillsConverse : Type 0
BillsConverse =
    (plan : PlanView) (from until : ℕ) (x y : Readings) (m k : Masks) (events : List Event) → ((g r i : ℕ) → is_some (x g r i) ≡ is_some (y g r i))
    → IsBounded plan.groups x → IsBounded plan.groups y → told plan from until x m events ≡ told plan from until y k events
    → AgreeWithBills plan from until x y (reverse events)
