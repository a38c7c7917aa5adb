-- A meter of a run: what it has read, and what it answers.
use Rattle.meter_frames.specs.declared.Frame.{Frame}
use Rattle.std.specs.Prelude.{◌≡◌, ℕ, ◌<◌, nat_lt, ◌&&◌, Bool, true, false, List, length, All, filter, Option, Some, None, is_some}
use Rattle.std.specs.List.{AllZip, range_with_len}
use Rattle.group_plan.specs.Plans.{size}
use Rattle.group_plan.specs.Tables.{ReadingsView, PresenceView, presence_of}
use Rattle.group_plan.specs.declared.Kind.TheVariants.{Announcement}
use Rattle.group_plan.specs.declared.Tag.{Tag}
use Rattle.meter_core.specs.Meters.{MeterView, note_at, kept_set}
use Rattle.meter_core.specs.declared.Heard.{Heard}
use Rattle.meter_core.specs.declared.Heard.TheVariants.{Answer, AnswerAgain, Refused}
use Rattle.event_schedule.specs.declared.Event.{Event}
use Rattle.event_schedule.specs.Events.{same_kind}
use Rattle.event_schedule.specs.Schedule.{Shape, shape_of_presence, members_of, floor_of, missing, is_announcement_taken}

-- a meter that is marked read is so over the members of the round
abbrev pub AreMembers : List ℕ → Option (List ℕ) → Type 0
AreMembers members None = Unit {0}
AreMembers members (Some set) = set ≡ members

-- a set that meter i keeps for a round is the missing set, and its announcement was taken
abbrev pub IsKept : Shape → List Event → ℕ → ℕ → ℕ → Option (List ℕ) → Type 0
IsKept s past g r i None = Unit {0}
IsKept s past g r i (Some set) = (is_announcement_taken s g r i past ≡ true) × (set ≡ missing s g r past)

-- meter i of group g in a run of n rounds: it has read exactly those rounds below t in which it is present, and keeps announced sets alone
pub record IsMeter (s : Shape) (n t : ℕ) (past : List Event) (g i : ℕ) (m : MeterView) : Type 0 where
  pub number : m.meter ≡ i
  pub floor : m.floor ≡ floor_of s g
  pub notes : length m.notes ≡ n
  pub read : (r : ℕ) → r < n → is_some (note_at m r).members ≡ (nat_lt r t && s.present g r i)
  pub members : (r : ℕ) → AreMembers (members_of s g r) (note_at m r).members
  pub kept : (r : ℕ) → IsKept s past g r i (kept_set m r)

-- the same of who has readings, after these events, before the readings of tick t are sent
abbrev pub IsMeterOf : PresenceView → List Event → ℕ → ℕ → ℕ → MeterView → Type 0
IsMeterOf p past t g i m = IsMeter (shape_of_presence p) p.plan.rounds t past g i m

-- the meters of group g, one after another
abbrev pub AreOfGroup : PresenceView → List Event → ℕ → ℕ → List MeterView → Type 0
AreOfGroup p past t g meters = AllZip (IsMeterOf p past t g) (range_with_len 0 (size p.plan.groups g)) meters

-- after some events the meters of group g with these readings have read the rounds below t
pub record CanReadGroup (readings : ReadingsView) (t g : ℕ) (meters : List MeterView) : Type 0 where
  pub past : List Event
  pub are : AreOfGroup (presence_of readings) past t g meters

-- ---- hearing

-- the meter answers
abbrev pub is_answer : Heard → Bool
is_answer Answer = true
is_answer AnswerAgain = true
is_answer (Refused why) = false

abbrev pub is_announcement : Tag → Bool
is_announcement tag = same_kind tag.kind Announcement

-- the announcements among the frames that came
abbrev pub announcements : List Frame → List Frame
announcements came = filter (λ f. is_announcement f.tag) came

-- a frame, if it is an announcement, has the missing set
abbrev pub HasSet : Shape → List Event → Frame → Type 0
HasSet s past f = is_announcement f.tag ≡ true → f.missing ≡ missing s f.tag.group f.tag.round past

-- an announcement was taken with effect, of a round of the plan below t, and has the missing set
pub record IsTold (p : PresenceView) (past : List Event) (t : ℕ) (f : Frame) : Type 0 where
  pub taken : is_announcement_taken (shape_of_presence p) f.tag.group f.tag.round f.tag.meter past ≡ true
  pub round : f.tag.round < p.plan.rounds
  pub early : f.tag.round < t
  pub set : f.missing ≡ missing (shape_of_presence p) f.tag.group f.tag.round past

-- so is each announcement among these frames
abbrev pub AreTold : PresenceView → List Event → ℕ → List Frame → Type 0
AreTold p past t came = All (λ f. is_announcement f.tag ≡ true → IsTold p past t f) came
