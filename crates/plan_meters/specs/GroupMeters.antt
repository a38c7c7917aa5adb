-- The meters of one group: what each has read, and what it answers.
use Rattle.std.specs.Prelude.{◌≡◌, ℕ, true, List, Some, slice_index_or}
use Rattle.group_plan.specs.Tables.{PresenceView, IsPresenceTable}
use Rattle.meter_core.specs.Meters.{MeterView, kept_set}
use Rattle.meter_frames.specs.declared.Frame.{Frame}
use Rattle.event_schedule.specs.declared.Event.{Event}
use Rattle.plan_meters.specs.Meters.{AreOfGroup, is_announcement, IsTold}

-- only members are present, and after these events they are the meters of group g, and have read the rounds below t
pub record AreGroupMeters (p : PresenceView) (past : List Event) (t g : ℕ) (meters : List MeterView) : Type 0 where
  pub table : IsPresenceTable p.plan p.table
  pub are : AreOfGroup p past t g meters

-- after some events the meters have read the rounds below some t, and the announcement to one of them is of one of these
pub record CanHearIn (meters : List MeterView) (f : Frame) : Type 0 where
  pub presence : PresenceView
  pub past : List Event
  pub until : ℕ
  pub are : AreGroupMeters presence past until f.tag.group meters
  pub told : is_announcement f.tag ≡ true → IsTold presence past until f

-- the meter to which the announcement came keeps its set
abbrev pub KeepsSet : List MeterView → Frame → Type 0
KeepsSet meters f = (meter : MeterView) → kept_set (slice_index_or meters f.tag.meter meter) f.tag.round ≡ Some f.missing
