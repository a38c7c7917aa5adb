-- What a head end says, and what a meter says, as lines without their newlines.
use Rattle.std.specs.Prelude.{ℕ, Bool, List, [], ◌∷◌, codes, decimal, if◌then◌else◌, Ok}
use Rattle.group_plan.specs.Plans.{PlanView, name_of}
use Rattle.meter_core.specs.declared.Why.{Why}
use Rattle.meter_core.specs.declared.Why.TheVariants as why
use Rattle.meter_frames.specs.declared.FrameError.{FrameError}
use Rattle.meter_frames.specs.declared.FrameError.TheVariants as errors
use Rattle.meter_frames.specs.Frames.{FitsKind, IsFrame}
use Rattle.field_texts.specs.Sets.{numbers_text}
use Rattle.transcript_text.specs.Spelling.{joined}
use Rattle.totals_report.specs.Texts.{fields_of}
use Rattle.head_end.specs.declared.answers.Refusal.{Refusal}
use Rattle.head_end.specs.declared.answers.Refusal.TheVariants as refusals
use Rattle.head_end.specs.declared.answers.Reply.{Reply}
use Rattle.head_end.specs.declared.answers.Reply.TheVariants.{Fresh, Again, Differs, Late, Void, Refused}
use Rattle.head_end.specs.declared.answers.TickLine.{TickLine}
use Rattle.head_end.specs.declared.answers.TickLine.TheVariants.{Lacking, Row, Closed, Announce}
use Rattle.meter_apart.specs.declared.answers.ReadingRefusal.{ReadingRefusal}
use Rattle.meter_apart.specs.declared.answers.ReadingRefusal.TheVariants as unread
use Rattle.meter_apart.specs.declared.answers.FrameRefusal.{FrameRefusal}
use Rattle.meter_apart.specs.declared.answers.FrameRefusal.TheVariants as unanswered
use Rattle.apart_lines.specs.declared.said.HeadEndSays.{HeadEndSays}
use Rattle.apart_lines.specs.declared.said.HeadEndSays.TheVariants as head
use Rattle.apart_lines.specs.declared.said.MeterSays.{MeterSays}
use Rattle.apart_lines.specs.declared.said.MeterSays.TheVariants as meter
use Rattle.apart_lines.specs.declared.heard.ToHeadEnd.{ToHeadEnd}
use Rattle.apart_lines.specs.declared.heard.ToHeadEnd.TheVariants as to_head
use Rattle.apart_lines.specs.declared.heard.ToMeter.{ToMeter}
use Rattle.apart_lines.specs.declared.heard.ToMeter.TheVariants as to_meter
use Rattle.apart_lines.specs.Frames.{digits_of}

-- ---- causes

abbrev pub broken_name : FrameError → List ℕ
broken_name (errors.Length found) = codes "Length"
broken_name errors.Magic = codes "Magic"
broken_name errors.Version = codes "Version"
broken_name errors.Kind = codes "Kind"
broken_name errors.Reserved = codes "Reserved"
broken_name errors.SetInReading = codes "SetInReading"
broken_name errors.WordInAnnouncement = codes "WordInAnnouncement"

abbrev pub refusal_name : Refusal → List ℕ
refusal_name refusals.Announcement = codes "Announcement"
refusal_name refusals.Plan = codes "Plan"
refusal_name refusals.Set = codes "Set"

abbrev pub unread_name : ReadingRefusal → List ℕ
unread_name unread.Round = codes "Round"
unread_name unread.Range = codes "Range"
unread_name unread.Twice = codes "Twice"

abbrev pub why_name : Why → List ℕ
why_name why.OutOfPlan = codes "OutOfPlan"
why_name why.NotRead = codes "NotRead"
why_name why.SelfMissing = codes "SelfMissing"
why_name (why.Thin survivors) = codes "Thin"
why_name (why.OtherSet set) = codes "OtherSet"

abbrev pub unanswered_name : FrameRefusal → List ℕ
unanswered_name unanswered.Tag = codes "Tag"
unanswered_name (unanswered.Why reason) = why_name reason

-- a refusal, by the name of its cause
abbrev pub refused_fields : List ℕ → List (List ℕ)
refused_fields cause = codes "refused" ∷ cause ∷ []

-- ---- the head end

abbrev pub reply_fields : Reply → List (List ℕ)
reply_fields Fresh = codes "fresh" ∷ []
reply_fields Again = codes "again" ∷ []
reply_fields Differs = codes "differs" ∷ []
reply_fields Late = codes "late" ∷ []
reply_fields Void = codes "void" ∷ []
reply_fields (Refused cause) = refused_fields (refusal_name cause)

-- how a round was closed
abbrev pub closing_word : Bool → List ℕ
closing_word announced = if announced then codes "announced" else codes "thin"

abbrev pub tick_line_fields : PlanView → TickLine → List (List ℕ)
tick_line_fields plan (Lacking g r set) = codes "lacking" ∷ name_of plan.groups g ∷ decimal r ∷ numbers_text set ∷ []
tick_line_fields plan (Row row) = codes "row" ∷ fields_of row
tick_line_fields plan (Closed g r survivors missing announced) =
    codes "closed" ∷ name_of plan.groups g ∷ decimal r ∷ decimal survivors ∷ numbers_text missing ∷ closing_word announced ∷ []
tick_line_fields plan (Announce f) = codes "frame" ∷ digits_of f ∷ []

abbrev pub head_end_fields : PlanView → HeadEndSays → List (List ℕ)
head_end_fields plan (head.Reply reply) = reply_fields reply
head_end_fields plan (head.Broken rule) = refused_fields (broken_name rule)
head_end_fields plan head.UnknownLine = refused_fields (codes "Line")
head_end_fields plan head.WrongTick = refused_fields (codes "Tick")
head_end_fields plan (head.Line line) = tick_line_fields plan line
head_end_fields plan (head.Ticked tick) = codes "ticked" ∷ decimal tick ∷ []
head_end_fields plan head.Reported = codes "reported" ∷ []
head_end_fields plan (head.Ready ticks) = codes "ready" ∷ decimal ticks ∷ []

-- what a head end of this plan says
unfoldable pub head_end_text : PlanView → HeadEndSays → List ℕ
head_end_text plan says = joined (head_end_fields plan says)

-- what it can say: a frame is one of its kind
abbrev pub CanSayLine : TickLine → Type 0
CanSayLine (Announce f) = FitsKind f.tag.kind f.missing f.word
CanSayLine _ = Unit {0}

-- a frame that a line says has a spelling
abbrev pub HasSpelling : TickLine → Type 0
HasSpelling (Announce f) = IsFrame f
HasSpelling _ = Unit {0}

abbrev pub CanSay : HeadEndSays → Type 0
CanSay (head.Line line) = CanSayLine line
CanSay _ = Unit {0}

-- what it says to a meter: a frame, or nothing
abbrev pub head_end_to_meter : HeadEndSays → ToMeter
head_end_to_meter (head.Line (Announce f)) = to_meter.Frame (Ok f)
head_end_to_meter _ = to_meter.Nothing

-- ---- the meter

abbrev pub meter_fields : MeterSays → List (List ℕ)
meter_fields (meter.Said f) = codes "frame" ∷ digits_of f ∷ []
meter_fields (meter.Unread cause) = refused_fields (unread_name cause)
meter_fields (meter.Unanswered cause) = refused_fields (unanswered_name cause)
meter_fields (meter.Broken rule) = refused_fields (broken_name rule)
meter_fields meter.UnknownLine = refused_fields (codes "Line")
meter_fields meter.Ready = codes "ready" ∷ []

-- what a meter says
unfoldable pub meter_text : MeterSays → List ℕ
meter_text says = joined (meter_fields says)

abbrev pub CanMeterSay : MeterSays → Type 0
CanMeterSay (meter.Said f) = FitsKind f.tag.kind f.missing f.word
CanMeterSay _ = Unit {0}

-- what it says to a head end: a frame, or nothing
abbrev pub meter_to_head_end : MeterSays → ToHeadEnd
meter_to_head_end (meter.Said f) = to_head.Frame (Ok f)
meter_to_head_end _ = to_head.Nothing
