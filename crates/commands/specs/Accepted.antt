-- What is enough for a command to be done.
use Rattle.std.specs.Prelude.{◌≡◌, ◌≤◌, ℕ, min, List, [], length, take, Some, Ok, reverse, true, nat_lt, ◌⊎◌, Option, ⊤}
use Rattle.desk_outside.specs.Desk.{View}
use Rattle.desk_outside.specs.Wire.{Source, WireView}
use Rattle.group_plan.specs.Plans.{PlanView}
use Rattle.meter_apart.specs.declared.keys.MeterKeys.{MeterKeys}
use Rattle.meter_apart.specs.Keys.{part_of as part_with}
use Rattle.meter_files.specs.PartFiles.{MeterFileView, part_of}
use Rattle.apart_lines.specs.declared.heads.HeadFound.{HeadFound}
use Rattle.apart_lines.specs.declared.heads.HeadFound.TheVariants.{Whole, Begun, Other}
use Rattle.apart_lines.specs.Heads.{head_found, journal_head, meter_journal_head}
use Rattle.apart_roles.specs.Inputs.{AreNext, Came, ComesTo, are_lines}
use Rattle.apart_roles.specs.HeadEndStarts.{follow_logged}
use Rattle.apart_roles.specs.MeterStarts.{follow_noted}
use Rattle.role_commands.specs.MeterEnds.{AreKeysOf}
use Rattle.command_words.specs.Limits.{most_bytes}
use Rattle.link_lanes.specs.Lanes.{Meaning, Slot}
use Rattle.command_words.specs.Words.{CollectNames, RunNames, ResumeNames, RegisterNames, TwinNames, Size, InspectNames, BillNames, HideNames, Command, Run, Ring, Audit, Twin, RingTwin, Pooled, Make, Load, Convert, Public, Parts, Collect, Meter, Help, Version, Bill, Hide, Inspect, Registers, Resume}
use Rattle.command_texts.specs.Runs.{Values, AreValues, plan_in}
use Rattle.event_schedule.specs.Transcripts.{TranscriptView}
use Rattle.mask_stream.specs.KeyStreams.{streams}
use Rattle.cut_resume.specs.OnCourse.{OnCourse}
use Rattle.command_texts.specs.ResumeRuns.{ResumeBytes, IsCutOf}
use Rattle.command_texts.specs.RegisterRuns.{RegisterValues, AreRegisterValues}
use Rattle.event_schedule.specs.Frames.{IsPossible}
use Rattle.totals_report.specs.Reading.{rows_of_text}
use Rattle.totals_report.specs.declared.row.ReportRow.{ReportRow}
use Rattle.audit_check.specs.Audits.{lines_in, rows_by_frames}
use Rattle.transcript_text.specs.declared.version.Version.TheVariants.{Two, One}
use Rattle.transcript_text.specs.Heads.{read_of}
use Rattle.group_plan.specs.Tables.{reading}
use Rattle.event_schedule.specs.Events.{events_of}
use Rattle.ideal_masks.specs.Offsets.{Agree, AgreeFor}
use Rattle.twin_worlds.specs.Twins.{IsRecord}
use Rattle.command_texts.specs.Twins.{TwinBytes, TwinValues, AreTwinValues}
use Rattle.command_texts.specs.RingIsolation.{AgreeOnRing}
use Rattle.command_texts.specs.RingTwins.{ring_words}
use Rattle.command_words.specs.declared.known.KnownMeter.{KnownMeter}
use Rattle.command_words.specs.Known.{is_known, are_in_plan}
use Rattle.link_lanes.specs.Fits.{hung_by}
use Rattle.run_commands.specs.LoadEnds.{made_file_of}
use Rattle.commands.specs.Outside.{OutsideView, FaultsRose}
use Rattle.transcript_text.specs.ReadBack.{HasText}
use Rattle.transcript_text.specs.Spelling.{text_of}
use Rattle.plan_files.specs.PlanFiles.{PlanFileView, plan_of, public_of}
use Rattle.run_course.specs.Beginnings.{IsSomeRun}
use Rattle.command_texts.specs.Inspecting.{InspectBytes}
use Rattle.command_texts.specs.Billing.{Metered, AreMetered, HideBytes, IsTextIn}
use Rattle.command_words.specs.declared.words.Period.{Period}
use Rattle.command_words.specs.declared.words.PlaceWords.{PlaceWords}
use Rattle.billing_read.specs.declared.partners.Partner.{Partner}
use Rattle.billing_read.specs.Partners.{IsPartner}
use Rattle.event_schedule.specs.Transcript.{shape_of_readings}

-- the desk tells that the name holds these bytes, and they are not too many
pub record HoldsFile (v : View) (name bytes : List ℕ) : Type 0 where
  pub held : v.held name ≡ Some (Some bytes)
  pub short : length bytes ≤ most_bytes

-- the two files of `run` or `ring` have values, for which the cupboard has the lanes
pub record RunAccepts (cupboard : List Meaning) (names : RunNames) (v : View) : Type 0 where
  pub plan_bytes : List ℕ
  pub readings_bytes : List ℕ
  pub plan : HoldsFile v names.plan plan_bytes
  pub readings : HoldsFile v names.readings readings_bytes
  pub values : Values
  pub of_bytes : AreValues cupboard plan_bytes readings_bytes values

-- the three files of `resume` have values, for which the cupboard has the lanes, and CUT is a cut of the plan whose entries are on course
pub record ResumeAccepts (cupboard : List Meaning) (names : ResumeNames) (v : View) : Type 0 where
  pub bytes : ResumeBytes
  pub plan : HoldsFile v names.plan bytes.plan
  pub readings : HoldsFile v names.readings bytes.readings
  pub cut_file : HoldsFile v names.cut bytes.cut
  pub values : Values
  pub of_bytes : AreValues cupboard bytes.plan bytes.readings values
  pub cut : TranscriptView
  pub of_plan : IsCutOf (plan_in values) bytes.cut cut
  pub on_course : OnCourse values.readings (streams values.file.keys) values.slots cut.entries

-- the two files of `registers` have values, for which the cupboard has the lanes
pub record RegistersAccept (cupboard : List Meaning) (count : ℕ) (names : RegisterNames) (v : View) : Type 0 where
  pub plan_bytes : List ℕ
  pub readings_bytes : List ℕ
  pub plan : HoldsFile v names.plan plan_bytes
  pub readings : HoldsFile v names.readings readings_bytes
  pub values : RegisterValues
  pub of_bytes : AreRegisterValues cupboard count plan_bytes readings_bytes values

-- both files of `audit` have texts that are read, the lines of the transcript are possible, and the rows of the report are those that the frames give
pub record AuditAccepts (transcript report : List ℕ) (v : View) : Type 0 where
  pub transcript_bytes : List ℕ
  pub report_bytes : List ℕ
  pub transcript_file : HoldsFile v transcript transcript_bytes
  pub report_file : HoldsFile v report report_bytes
  pub lines : TranscriptView
  pub rows : List ReportRow
  pub transcript_read : read_of Two transcript_bytes ≡ Ok lines
  pub report_read : rows_of_text report_bytes ≡ Ok rows
  pub possible : IsPossible lines.plan.groups (lines_in lines)
  pub given : rows ≡ rows_by_frames lines

-- the three files of `twin` have values, TRANSCRIPT holds the record of the first table under the stream words of the keys, and the second table agrees
-- with the first in every opened total
pub record TwinAccepts (names : TwinNames) (v : View) : Type 0 where
  pub bytes : TwinBytes
  pub plan : HoldsFile v names.plan bytes.plan
  pub readings : HoldsFile v names.readings bytes.readings
  pub other : HoldsFile v names.other bytes.other
  pub transcript : HoldsFile v names.transcript bytes.transcript
  pub values : TwinValues
  pub of_bytes : AreTwinValues bytes values
  pub lines : TranscriptView
  pub recorded : IsRecord (streams values.file.keys) values.first bytes.transcript lines
  pub agree : Agree values.first.plan.groups (reading values.first.table) (reading values.second.table) (reverse (events_of lines.entries))

-- the three files of `ringtwin` have values, TRANSCRIPT holds the record of the first table under the ring words of this width, and the second table agrees
-- with the first on the ring
pub record RingTwinAccepts (w : ℕ) (names : TwinNames) (v : View) : Type 0 where
  pub bytes : TwinBytes
  pub plan : HoldsFile v names.plan bytes.plan
  pub readings : HoldsFile v names.readings bytes.readings
  pub other : HoldsFile v names.other bytes.other
  pub transcript : HoldsFile v names.transcript bytes.transcript
  pub values : TwinValues
  pub of_bytes : AreTwinValues bytes values
  pub lines : TranscriptView
  pub recorded : IsRecord (ring_words w values) values.first bytes.transcript lines
  pub agree : AgreeOnRing w values.first.plan values.first.table values.second.table (events_of lines.entries)

-- the three files of `pooled` have values, the plan has each known meter, TRANSCRIPT holds the record of the first table under the stream words of the keys,
-- and the second table agrees with the first for the known meters
pub record PooledAccepts (known : List KnownMeter) (names : TwinNames) (v : View) : Type 0 where
  pub bytes : TwinBytes
  pub plan : HoldsFile v names.plan bytes.plan
  pub readings : HoldsFile v names.readings bytes.readings
  pub other : HoldsFile v names.other bytes.other
  pub transcript : HoldsFile v names.transcript bytes.transcript
  pub values : TwinValues
  pub of_bytes : AreTwinValues bytes values
  pub within : are_in_plan values.file.plan known ≡ true
  pub lines : TranscriptView
  pub recorded : IsRecord (streams values.file.keys) values.first bytes.transcript lines
  pub agree : AgreeFor (is_known known) values.first.plan.groups (reading values.first.table) (reading values.second.table) (reverse (events_of lines.entries))

-- the cupboard has the lane of the files of a size
pub record LoadAccepts (cupboard : List Meaning) (size : Size) : Type 0 where
  pub slots : List Slot
  pub lanes : hung_by cupboard (made_file_of size).lanes ≡ Ok slots

-- OLD holds the text of version 1 of a transcript
pub record ConvertAccepts (old : List ℕ) (v : View) : Type 0 where
  pub bytes : List ℕ
  pub file : HoldsFile v old bytes
  pub transcript : TranscriptView
  pub has_text : HasText One transcript
  pub text : bytes ≡ text_of One transcript

-- PLAN has a value
pub record PublicAccepts (plan : List ℕ) (v : View) : Type 0 where
  pub bytes : List ℕ
  pub file : HoldsFile v plan bytes
  pub says : PlanFileView
  pub value : plan_of bytes ≡ Ok says

-- PLAN has a value, whose plan has the group
pub record PartsAccepts (plan : List ℕ) (g : ℕ) (v : View) : Type 0 where
  pub bytes : List ℕ
  pub file : HoldsFile v plan bytes
  pub says : PlanFileView
  pub value : plan_of bytes ≡ Ok says
  pub group : nat_lt g (length says.plan.groups) ≡ true

-- the three files of `inspect` have values, the transcript is a run of the public plan whose lines are possible, and the rows of the report are those that
-- the frames give
pub record InspectAccepts (names : InspectNames) (v : View) : Type 0 where
  pub bytes : InspectBytes
  pub public : HoldsFile v names.public bytes.public
  pub transcript : HoldsFile v names.transcript bytes.transcript
  pub report : HoldsFile v names.report bytes.report
  pub lines : TranscriptView
  pub rows : List ReportRow
  pub plan_read : public_of bytes.public ≡ Ok lines.plan
  pub transcript_read : read_of Two bytes.transcript ≡ Ok lines
  pub report_read : rows_of_text bytes.report ≡ Ok rows
  pub run : IsSomeRun lines.plan lines.entries
  pub possible : IsPossible lines.plan.groups (lines_in lines)
  pub given : rows ≡ rows_by_frames lines

-- both files of `bill` have values
pub record BillAccepts (names : BillNames) (v : View) : Type 0 where
  pub plan_bytes : List ℕ
  pub readings_bytes : List ℕ
  pub plan : HoldsFile v names.plan plan_bytes
  pub readings : HoldsFile v names.readings readings_bytes
  pub values : Metered
  pub of_bytes : AreMetered plan_bytes readings_bytes values

-- the three files of `hide` have values, the transcript is of the plan, and the place has a partner
pub record HideAccepts (names : HideNames) (period : Period) (place : PlaceWords) (v : View) : Type 0 where
  pub bytes : HideBytes
  pub plan : HoldsFile v names.plan bytes.plan
  pub readings : HoldsFile v names.readings bytes.readings
  pub transcript : HoldsFile v names.transcript bytes.transcript
  pub values : Metered
  pub of_bytes : AreMetered bytes.plan bytes.readings values
  pub lines : TranscriptView
  pub of_plan : IsTextIn values.file.plan lines bytes.transcript
  pub partner : Partner
  pub is_partner : IsPartner (shape_of_readings values.readings.plan.groups (reading values.readings.table)) (reading values.readings.table) (reverse (events_of lines.entries)) period.from period.until place.group place.round place.meter partner

-- ---- journals

-- as many bytes of a journal as the head has, and all where it has fewer
abbrev pub front_of : (head : List ℕ) → Source → List ℕ
front_of head journal = take (min (length journal.bytes) (length head)) journal.bytes

-- whichever lines come next of a journal, they can be followed, one after another
abbrev pub CanBeFollowed : {L : Type 0} → (List L → Came → Option (List L)) → Source → Type 0
CanBeFollowed {L} follow journal = (lines : List Came) → are_lines lines ≡ true → AreNext (Some journal) lines → (all : List L) × ComesTo follow [] lines all

-- behind its head a journal has lines that can be followed; or it has a proper beginning of the head, and is begun anew
abbrev pub GoesOnWith : {L : Type 0} → HeadFound → (List L → Came → Option (List L)) → (head : List ℕ) → Source → Type 0
GoesOnWith Whole follow head journal = CanBeFollowed follow (record journal { place = length (front_of head journal) })
GoesOnWith Begun follow head journal = ⊤
GoesOnWith (Other line) follow head journal = ⊥

-- the wire tells a journal by which a role with this head goes on
pub record HoldsJournal {L : Type 0} (follow : List L → Came → Option (List L)) (head : List ℕ) (wire : WireView) : Type 0 where
  pub journal : Source
  pub told : wire.journal ≡ Some journal
  pub goes_on : GoesOnWith (head_found 1 head (front_of head journal)) follow head journal

-- PUBLIC has a value, and the wire tells a journal by which a head end of its plan goes on
pub record CollectAccepts (names : CollectNames) (o : OutsideView) : Type 0 where
  pub bytes : List ℕ
  pub file : HoldsFile o.desk names.public bytes
  pub plan : PlanView
  pub value : public_of bytes ≡ Ok plan
  pub journal : HoldsJournal (follow_logged plan) (journal_head plan) o.wire

-- METER has a value, and the wire tells a journal by which its meter goes on
pub record MeterAccepts (meter : List ℕ) (o : OutsideView) : Type 0 where
  pub bytes : List ℕ
  pub file : HoldsFile o.desk meter bytes
  pub says : MeterFileView
  pub value : part_of bytes ≡ Ok says
  pub journal : (keys : MeterKeys) → AreKeysOf says keys → HoldsJournal (follow_noted keys) (meter_journal_head (part_with keys)) o.wire

-- ---- all commands

-- the files that a command fetches are accepted
abbrev pub Accepts : List Meaning → Command → OutsideView → Type 0
Accepts cupboard (Run names workers) o = RunAccepts cupboard names o.desk
Accepts cupboard (Ring width names workers) o = RunAccepts cupboard names o.desk
Accepts cupboard (Resume names workers) o = ResumeAccepts cupboard names o.desk
Accepts cupboard (Registers count names workers) o = RegistersAccept cupboard count names o.desk
Accepts cupboard (Audit transcript report) o = AuditAccepts transcript report o.desk
Accepts cupboard (Twin names) o = TwinAccepts names o.desk
Accepts cupboard (RingTwin width names) o = RingTwinAccepts width names o.desk
Accepts cupboard (Pooled known names) o = PooledAccepts known names o.desk
Accepts cupboard (Make size plan readings) o = Unit {0}
Accepts cupboard (Load size workers transcript) o = LoadAccepts cupboard size
Accepts cupboard (Convert old transcript) o = ConvertAccepts old o.desk
Accepts cupboard (Public plan public) o = PublicAccepts plan o.desk
Accepts cupboard (Parts plan g prefix) o = PartsAccepts plan g o.desk
Accepts cupboard (Collect names) o = CollectAccepts names o
Accepts cupboard (Meter meter journal) o = MeterAccepts meter o
Accepts cupboard (Inspect names) o = InspectAccepts names o.desk
Accepts cupboard (Bill names period) o = BillAccepts names o.desk
Accepts cupboard (Hide names period place) o = HideAccepts names period place o.desk
Accepts cupboard Help o = Unit {0}
Accepts cupboard Version o = Unit {0}

-- a command whose files are accepted is done, or finds no memory, unless a count of faults rose
abbrev pub AcceptedIsDone : List Meaning → Option Command → OutsideView → OutsideView → (before now status : ℕ) → Type 0
AcceptedIsDone cupboard asked o p before now status =
    (command : Command) → asked ≡ Some command → Accepts cupboard command o → ¬ FaultsRose (Some command) before now o.wire p.wire → (status ≡ 0) ⊎ (status ≡ 1)
