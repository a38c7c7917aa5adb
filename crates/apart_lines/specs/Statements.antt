-- What the laws of this crate say.
use Rattle.std.specs.Prelude.{◌≡◌, ℕ, List, Ok, All}
use Rattle.missing_round.specs.Masks.{Masks}
use Rattle.group_plan.specs.Plans.{PlanView}
use Rattle.meter_frames.specs.declared.Frame.{Frame}
use Rattle.meter_frames.specs.Frames.{FitsKind}
use Rattle.head_end.specs.declared.answers.Logged.{Logged}
use Rattle.head_end.specs.Lines.{tick_lines, again_lines}
use Rattle.meter_apart.specs.declared.answers.Noted.{Noted}
use Rattle.meter_apart.specs.declared.part.Part.{Part}
use Rattle.meter_apart.specs.Replies.{to_reading, to_frame}
use Rattle.apart_lines.specs.Said.{CanSayLine}

-- each line of a tick can be said
abbrev pub TicksCanBeSaid : Type 0
TicksCanBeSaid = (plan : PlanView) (journal : List Logged) (t : ℕ) → All CanSayLine (tick_lines plan journal t)

-- and each announcement that is said again
abbrev pub AnnouncementsCanBeSaid : Type 0
AnnouncementsCanBeSaid = (plan : PlanView) (journal : List Logged) → All CanSayLine (again_lines plan journal)

-- each frame with which a meter answers can be said
abbrev pub ReadingsCanBeSaid : Type 0
ReadingsCanBeSaid = (part : Part) (m : Masks) (journal : List Noted) (r reading : ℕ) (f : Frame) → to_reading part m journal r reading ≡ Ok f → FitsKind f.tag.kind f.missing f.word

abbrev pub AnswersCanBeSaid : Type 0
AnswersCanBeSaid = (part : Part) (m : Masks) (journal : List Noted) (heard f : Frame) → to_frame part m journal heard ≡ Ok f → FitsKind f.tag.kind f.missing f.word
