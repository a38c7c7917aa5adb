-- Who has a reading, by the frames of lines.
use Rattle.std.specs.Prelude.{◌≡◌, ℕ, ◌&&◌, List, is_some, if◌then◌else◌}
use Rattle.group_plan.specs.declared.Kind.TheVariants.{Reading}
use Rattle.group_plan.specs.Plans.{PlanView, is_member}
use Rattle.group_plan.specs.Tables.{ReadingsView, PresenceView, reading}
use Rattle.event_schedule.specs.declared.Line.{Line}
use Rattle.event_schedule.specs.declared.Line.TheVariants.{Send as SendLine}
use Rattle.event_schedule.specs.Transcripts.{HasPlace}
use Rattle.event_schedule.specs.Events.{event_of, frame_of, is_send}
use Rattle.event_schedule.specs.Schedule.{shape_of_presence}
use Rattle.event_schedule.specs.Frames.{first_frame, shape_of_lines}

-- the presence of the lines' own shape
pub record IsPresenceOf (plan : PlanView) (ls : List Line) (presence : PresenceView) : Type 0 where
  pub plan_is : presence.plan ≡ plan
  pub shape_is : shape_of_presence presence ≡ shape_of_lines plan.groups ls

-- the tag of a Send is of the plan
abbrev pub HasTagPlace : PlanView → Line → Type 0
HasTagPlace plan (SendLine tag frame) = HasPlace plan tag
HasTagPlace plan _ = Unit {0}

-- where the line is the Send of a reading, its meter has one exactly where it is a member and the line has a frame; elsewhere nothing changes
pub record Notes (old : ReadingsView) (l : Line) (new : ReadingsView) : Type 0 where
  pub plan_stays : new.plan ≡ old.plan
  pub present : (g r i : ℕ) → is_some (reading new.table g r i)
      ≡ (if is_send g r i Reading (event_of l) then is_member old.plan.groups g r i && is_some (frame_of l) else is_some (reading old.table g r i))

-- the table has a reading exactly where these lines say so
pub record IsNoted (plan : PlanView) (ls : List Line) (readings : ReadingsView) : Type 0 where
  pub plan_is : readings.plan ≡ plan
  pub present : (g r i : ℕ) → is_some (reading readings.table g r i) ≡ (is_member plan.groups g r i && is_some (first_frame g r i ls))
