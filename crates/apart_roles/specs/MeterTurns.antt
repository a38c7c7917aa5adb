-- What a meter brings outside in answer to a line, after a journal: what it notes is on the disk before it says a frame.
use Rattle.std.specs.Prelude.{◌≡◌, List, [], ◌∷◌, ◌++◌, Option, Some, None, Result, Ok, Err, if◌then◌else◌}
use Rattle.missing_round.specs.Masks.{Masks}
use Rattle.meter_frames.specs.declared.Frame.{Frame}
use Rattle.meter_apart.specs.declared.answers.FrameRefusal.{FrameRefusal}
use Rattle.meter_apart.specs.declared.answers.Noted.{Noted}
use Rattle.meter_apart.specs.declared.answers.Noted.TheVariants.{Read, Kept}
use Rattle.meter_apart.specs.declared.answers.ReadingRefusal.{ReadingRefusal}
use Rattle.meter_apart.specs.declared.meter.MeterApart.{MeterApart}
use Rattle.meter_apart.specs.declared.part.Part.{Part}
use Rattle.meter_apart.specs.Meter.{IsAfter, meter_masks, meter_part}
use Rattle.meter_apart.specs.Parts.{is_to_me}
use Rattle.meter_apart.specs.Replies.{can_follow, to_frame, to_reading}
use Rattle.apart_lines.specs.declared.heard.ToMeter.{ToMeter}
use Rattle.apart_lines.specs.declared.heard.ToMeter.TheVariants as hears
use Rattle.apart_lines.specs.declared.said.MeterSays.{MeterSays}
use Rattle.apart_lines.specs.declared.said.MeterSays.TheVariants.{Said, Unread, Unanswered, Broken, UnknownLine}
use Rattle.apart_lines.specs.Journals.{noted_text}
use Rattle.apart_lines.specs.Said.{meter_text}
use Rattle.desk_outside.specs.Wire.{WireView, after_steps}
use Rattle.desk_outside.specs.declared.wire.WireStep.{WireStep}
use Rattle.apart_roles.specs.declared.outcome.RoleError.{RoleError}
use Rattle.apart_roles.specs.Steps.{Stops, noted_steps, said_steps}

-- ---- the meter

-- the meter is in the state that some journal gives
pub record HasJournal (meter : MeterApart) : Type 0 where
  pub journal : List Noted
  pub after : IsAfter journal meter

-- ---- what is said, and what is noted

abbrev pub by_reading : Result Frame ReadingRefusal → MeterSays
by_reading (Ok f) = Said f
by_reading (Err cause) = Unread cause

abbrev pub by_frame : Result Frame FrameRefusal → MeterSays
by_frame (Ok f) = Said f
by_frame (Err cause) = Unanswered cause

-- what a meter says to a line that says this to it
abbrev pub said_to : Part → Masks → List Noted → ToMeter → Option MeterSays
said_to part m journal (hears.Reading r reading) = Some (by_reading (to_reading part m journal r reading))
said_to part m journal (hears.Frame (Ok f)) = Some (by_frame (to_frame part m journal f))
said_to part m journal (hears.Frame (Err rule)) = Some (Broken rule)
said_to part m journal hears.Nothing = None
said_to part m journal hears.Unknown = Some UnknownLine

-- a line is noted that can follow the journal
abbrev pub noted_line : Part → List Noted → Noted → Option Noted
noted_line part journal line = if can_follow part journal line then Some line else None

-- a set in an announcement to the meter is noted
abbrev pub noted_frame : Part → List Noted → Frame → Option Noted
noted_frame part journal f = if is_to_me part f.tag then noted_line part journal (Kept f.tag.round f.missing) else None

-- the line that it notes: a reading that is said first in its round, or a set that is answered first
abbrev pub noted_to : Part → List Noted → ToMeter → Option Noted
noted_to part journal (hears.Reading r reading) = noted_line part journal (Read r reading)
noted_to part journal (hears.Frame (Ok f)) = noted_frame part journal f
noted_to part journal (hears.Frame (Err rule)) = None
noted_to part journal hears.Nothing = None
noted_to part journal hears.Unknown = None

-- the journal with it
abbrev pub with_noted : List Noted → Option Noted → List Noted
with_noted journal None = journal
with_noted journal (Some line) = journal ++ line ∷ []

-- ---- the steps

abbrev pub steps_noted : Option Noted → List WireStep
steps_noted None = []
steps_noted (Some line) = noted_steps (noted_text line)

abbrev pub steps_said : Option MeterSays → List WireStep
steps_said None = []
steps_said (Some says) = said_steps (meter_text says)

-- the steps by which a meter answers
abbrev pub turn_steps : Part → Masks → List Noted → ToMeter → List WireStep
turn_steps part m journal heard = steps_noted (noted_to part journal heard) ++ steps_said (said_to part m journal heard)

-- ---- a turn

-- what is noted is on the disk
pub record IsNoted (noted : Option Noted) (journal : List Noted) (v w : WireView) (new : MeterApart) : Type 0 where
  pub steps : w ≡ after_steps v (steps_noted noted)
  pub after : IsAfter (with_noted journal noted) new

abbrev pub Keeps : Option Noted → List Noted → WireView → WireView → Result (Unit {0}) RoleError → MeterApart → Type 0
Keeps noted journal v w (Ok done) new = IsNoted noted journal v w new
Keeps noted journal v w (Err error) new = Stops error (steps_noted noted) v w

-- this is to be said, and what is noted with it is on the disk
pub record IsPrepared (noted : Option Noted) (due : MeterSays) (journal : List Noted) (v w : WireView) (says : MeterSays) (new : MeterApart) : Type 0 where
  pub says_is : says ≡ due
  pub steps : w ≡ after_steps v (steps_noted noted)
  pub after : IsAfter (with_noted journal noted) new

abbrev pub Prepares : Option Noted → MeterSays → List Noted → WireView → WireView → Result MeterSays RoleError → MeterApart → Type 0
Prepares noted due journal v w (Ok says) new = IsPrepared noted due journal v w says new
Prepares noted due journal v w (Err error) new = Stops error (steps_noted noted) v w

-- what a line says to a meter was answered
pub record IsAnswered (old : MeterApart) (journal : List Noted) (heard : ToMeter) (v w : WireView) (new : MeterApart) : Type 0 where
  pub steps : w ≡ after_steps v (turn_steps (meter_part old) (meter_masks old) journal heard)
  pub after : IsAfter (with_noted journal (noted_to (meter_part old) journal heard)) new

-- it is answered, or the answer stops
abbrev pub Answers : MeterApart → List Noted → ToMeter → WireView → WireView → Result (Unit {0}) RoleError → MeterApart → Type 0
Answers old journal heard v w (Ok done) new = IsAnswered old journal heard v w new
Answers old journal heard v w (Err error) new = Stops error (turn_steps (meter_part old) (meter_masks old) journal heard) v w
