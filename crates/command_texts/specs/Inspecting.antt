-- What the bytes of the three files of `inspect` come to.
use Rattle.std.specs.Prelude.{ℕ, List, ◌≡◌, Ok, Err, ⊤, ◌≢◌, ◌⊎◌, length}
use Rattle.group_plan.specs.Plans.{PlanView}
use Rattle.plan_files.specs.PlanFiles.{public_of, PlanFileView, plan_of}
use Rattle.event_schedule.specs.Transcripts.{TranscriptView}
use Rattle.totals_report.specs.declared.row.ReportRow.{ReportRow}
use Rattle.command_texts.specs.Audits.{AreAuditTexts}
use Rattle.command_words.specs.declared.outcome.Outcome.{Outcome}
use Rattle.command_words.specs.declared.outcome.Outcome.TheVariants.{NoMemory, BadPlan, BadText, OtherRow}
use Rattle.command_words.specs.declared.text_fault.TextFault.TheVariants as of_text
use Rattle.transcript_text.specs.declared.version.Version.TheVariants.{Two}
use Rattle.transcript_text.specs.Heads.{read_of}
use Rattle.totals_report.specs.Reading.{rows_of_text}
use Rattle.command_words.specs.Words.{InspectNames}
use Rattle.transcript_text.specs.EntryLines.{entry_line}
use Rattle.run_course.specs.Ends.{IsFirstOffCourse, IsUnfinished}
use Rattle.event_schedule.specs.Frames.{IsPossible}
use Rattle.run_course.specs.Beginnings.{IsSomeRun}
use Rattle.audit_check.specs.Audits.{lines_in, IsFirstImpossible, IsContradicted, IsConfirmed}
use Rattle.audit_check.specs.declared.answers.Inspected.{Inspected}
use Rattle.audit_check.specs.Opened.{AreCounted}
use Rattle.plan_files.specs.Spelling.{public_text}
use Rattle.command_texts.specs.Runs.{Texts, MakesBy}
use Rattle.link_lanes.specs.Lanes.{Meaning}
use Rattle.command_texts.specs.declared.sharing.Sharing.{Sharing}

-- ---- the files

-- the bytes of a public plan, a transcript and a report
pub record InspectBytes : Type 0 where
  pub public : List ℕ
  pub transcript : List ℕ
  pub report : List ℕ

-- the public plan has a value, of which this holds
abbrev pub OfPublic : InspectBytes → (PlanView → Type 0) → Type 0
OfPublic bytes P = (plan : PlanView) × (public_of bytes.public ≡ Ok plan) × P plan

-- the three files have values, the transcript is of the public plan, and this holds of the transcript and the rows of the report
abbrev pub OfPlan : InspectBytes → (TranscriptView → List ReportRow → Type 0) → Type 0
OfPlan bytes P =
    (t : TranscriptView) × (rows : List ReportRow) × (public_of bytes.public ≡ Ok t.plan) × AreAuditTexts bytes.transcript bytes.report t rows × P t rows

-- ---- refusals

-- the public plan is refused; want of memory is free
abbrev pub PublicTextRefuses : (public bytes : List ℕ) → Outcome → Type 0
PublicTextRefuses public bytes (BadPlan name fault) = (name.now ≡ public) × (public_of bytes ≡ Err fault)
PublicTextRefuses public bytes NoMemory = ⊤
PublicTextRefuses public bytes _ = ⊥

-- both texts are read, and the transcript is of another plan
abbrev pub IsOfOtherPlan : PlanView → (transcript report : List ℕ) → Type 0
IsOfOtherPlan plan transcript report = (t : TranscriptView) × (rows : List ReportRow) × AreAuditTexts transcript report t rows × (t.plan ≢ plan)

-- a text is refused, the transcript's before the report's, or else the transcript is of another plan; want of memory is free
abbrev pub TextsRefuse : InspectNames → PlanView → (transcript report : List ℕ) → Outcome → Type 0
TextsRefuse names plan tb rb (BadText name (of_text.Transcript fault)) = (name.now ≡ names.transcript) × (read_of Two tb ≡ Err fault)
TextsRefuse names plan tb rb (BadText name (of_text.Report line)) =
    (name.now ≡ names.report) × ((t : TranscriptView) × (read_of Two tb ≡ Ok t) × (rows_of_text rb ≡ Err line))
TextsRefuse names plan tb rb (BadText name of_text.OtherPlan) = (name.now ≡ names.transcript) × IsOfOtherPlan plan tb rb
TextsRefuse names plan tb rb NoMemory = ⊤
TextsRefuse names plan tb rb _ = ⊥

-- the line of the first entry with which no run of the plan begins; or a run begins with all entries and goes on, and it is the line behind them
abbrev pub IsNotInTime : TranscriptView → (line : ℕ) → Type 0
IsNotInTime t line =
    ((k : ℕ) × (line ≡ entry_line t.plan k) × IsFirstOffCourse t k)
    ⊎ ((line ≡ entry_line t.plan (length t.entries)) × IsUnfinished t)

-- the entries are no run of the plan; want of memory is free
abbrev pub TimesRefuse : (transcript : List ℕ) → TranscriptView → Outcome → Type 0
TimesRefuse transcript t (BadText name (of_text.NotInTime line)) = (name.now ≡ transcript) × IsNotInTime t line
TimesRefuse transcript t NoMemory = ⊤
TimesRefuse transcript t _ = ⊥

-- a line is impossible, wherever it stands; or else the entries are no run of the plan; or else the report has other rows; want of memory is free
abbrev pub JudgeRefuses : (transcript : List ℕ) → TranscriptView → List ReportRow → Outcome → Type 0
JudgeRefuses transcript t rows (BadText name (of_text.Impossible line)) = (name.now ≡ transcript) × ((k : ℕ) × (line ≡ entry_line t.plan k) × IsFirstImpossible t k)
JudgeRefuses transcript t rows (BadText name (of_text.NotInTime line)) = (name.now ≡ transcript) × IsPossible t.plan.groups (lines_in t) × IsNotInTime t line
JudgeRefuses transcript t rows (OtherRow at from_frames reported) = IsSomeRun t.plan t.entries × IsContradicted t rows at from_frames reported
JudgeRefuses transcript t rows NoMemory = ⊤
JudgeRefuses transcript t rows _ = ⊥

-- the public plan is refused, or else a text or its plan, or else what they say
abbrev pub InspectRefuses : InspectNames → InspectBytes → Outcome → Type 0
InspectRefuses names bytes outcome =
    PublicTextRefuses names.public bytes.public outcome
    ⊎ (OfPublic bytes (λ plan. TextsRefuse names plan bytes.transcript bytes.report outcome)
    ⊎ OfPlan bytes (λ t rows. JudgeRefuses names.transcript t rows outcome))

-- ---- what passes

-- the entries are a run of the plan, for some presence and some fates; an audit confirms the report; and the opened rounds are counted
pub record IsInspected (t : TranscriptView) (rows : List ReportRow) (found : Inspected) : Type 0 where
  pub run : IsSomeRun t.plan t.entries
  pub confirmed : IsConfirmed t rows found.counts
  pub opened : AreCounted t found.opened

-- ---- what a run stores

-- the texts are those of a transcript and a report; the public plan of the plan file is the transcript's; the entries are a run of it; and nothing that they
-- say is refused
pub record IsInspectedRun (plan_bytes : List ℕ) (texts : Texts) : Type 0 where
  pub file : PlanFileView
  pub transcript : TranscriptView
  pub rows : List ReportRow
  pub plan : plan_of plan_bytes ≡ Ok file
  pub public : public_of (public_text file.plan) ≡ Ok transcript.plan
  pub read : AreAuditTexts texts.transcript texts.report transcript rows
  pub run : IsSomeRun transcript.plan transcript.entries
  pub none : (name : List ℕ) (outcome : Outcome) → JudgeRefuses name transcript rows outcome → outcome ≡ NoMemory

-- whatever files are run, under the public plan of the plan file no fault is found in the transcript and the report that are made of them
abbrev pub RunsAreInspected : Type 0
RunsAreInspected =
    (sharing : Sharing) (cupboard : List Meaning) (plan_bytes readings_bytes : List ℕ) (texts : Texts) → MakesBy sharing cupboard plan_bytes readings_bytes texts
    → IsInspectedRun plan_bytes texts
