-- What the bytes of a transcript and of a report come to in an audit.
use Rattle.std.specs.Prelude.{◌≡◌, ℕ, List, Ok, Result, Err, ⊤, ◌≤◌, length}
use Rattle.transcript_text.specs.declared.version.Version.TheVariants.{Two}
use Rattle.event_schedule.specs.Transcripts.{TranscriptView, IsTranscript}
use Rattle.transcript_text.specs.Spelling.{transcript_text}
use Rattle.transcript_text.specs.Heads.{read_of}
use Rattle.totals_report.specs.declared.row.ReportRow.{ReportRow}
use Rattle.totals_report.specs.Texts.{rows_text}
use Rattle.totals_report.specs.Reading.{rows_of_text}
use Rattle.audit_check.specs.declared.answers.AuditCounts.{AuditCounts}
use Rattle.audit_check.specs.declared.answers.AuditError.{AuditError}
use Rattle.audit_check.specs.declared.answers.AuditError.TheVariants as audit
use Rattle.audit_check.specs.Audits.{AuditEnds}
use Rattle.command_words.specs.declared.outcome.Outcome.{Outcome}
use Rattle.command_words.specs.declared.outcome.Outcome.TheVariants.{NoMemory, BadText, OtherRow}
use Rattle.command_words.specs.declared.text_fault.TextFault.TheVariants as of_text
use Rattle.audit_check.specs.Statements.{FindsNone}
use Rattle.command_texts.specs.Runs.{Texts, MakesBy}
use Rattle.link_lanes.specs.Lanes.{Meaning}
use Rattle.command_texts.specs.declared.sharing.Sharing.{Sharing}
use Rattle.command_words.specs.Limits.{most_bytes}

-- the bytes are the texts of a transcript and of a report with these rows, and are read as these
pub record AreAuditTexts (transcript_bytes report_bytes : List ℕ) (t : TranscriptView) (rows : List ReportRow) : Type 0 where
  pub sound : IsTranscript t
  pub transcript_is : transcript_bytes ≡ transcript_text t
  pub transcript : read_of Two transcript_bytes ≡ Ok t
  pub report_is : report_bytes ≡ rows_text rows
  pub report : rows_of_text report_bytes ≡ Ok rows

-- both texts are read, and this is what the audit of them answers
abbrev pub Audited : (transcript_bytes report_bytes : List ℕ) → Result AuditCounts AuditError → Type 0
Audited transcript_bytes report_bytes result =
    (t : TranscriptView) × (rows : List ReportRow) × AreAuditTexts transcript_bytes report_bytes t rows × AuditEnds t rows result

-- the report's text is refused; want of memory is free
abbrev pub ReportRefuses : (report bytes : List ℕ) → Outcome → Type 0
ReportRefuses report bytes (BadText name (of_text.Report line)) = (name.now ≡ report) × (rows_of_text bytes ≡ Err line)
ReportRefuses report bytes NoMemory = ⊤
ReportRefuses report bytes _ = ⊥

-- a text is refused, the transcript's before the report's, or else what they say is, by its cause; want of memory is free
abbrev pub AuditRefuses : (transcript report transcript_bytes report_bytes : List ℕ) → Outcome → Type 0
AuditRefuses transcript report tb rb (BadText name (of_text.Transcript fault)) = (name.now ≡ transcript) × (read_of Two tb ≡ Err fault)
AuditRefuses transcript report tb rb (BadText name (of_text.Report line)) =
    (name.now ≡ report) × ((t : TranscriptView) × (read_of Two tb ≡ Ok t) × (rows_of_text rb ≡ Err line))
AuditRefuses transcript report tb rb (BadText name (of_text.Impossible line)) = (name.now ≡ transcript) × Audited tb rb (Err (audit.Line line))
AuditRefuses transcript report tb rb (OtherRow at from_frames reported) = Audited tb rb (Err (audit.Row at from_frames reported))
AuditRefuses transcript report tb rb NoMemory = ⊤
AuditRefuses transcript report tb rb _ = ⊥

-- the audit of the bytes under these names
abbrev pub TextsAudited : (transcript report transcript_bytes report_bytes : List ℕ) → Result AuditCounts Outcome → Type 0
TextsAudited transcript report tb rb (Ok counts) = Audited tb rb (Ok counts)
TextsAudited transcript report tb rb (Err outcome) = AuditRefuses transcript report tb rb outcome

-- the transcript and the report are read, and no audit of them finds a fault
pub record IsConfirmedRun (texts : Texts) : Type 0 where
  pub transcript : TranscriptView
  pub rows : List ReportRow
  pub read : AreAuditTexts texts.transcript texts.report transcript rows
  pub none : (result : Result AuditCounts AuditError) → Audited texts.transcript texts.report result → FindsNone result

-- whatever files are run, the audit finds no fault in the transcript and the report that are made of them
abbrev pub RunsAreConfirmed : Type 0
RunsAreConfirmed =
    (sharing : Sharing) (cupboard : List Meaning) (plan_bytes readings_bytes : List ℕ) (texts : Texts) → MakesBy sharing cupboard plan_bytes readings_bytes texts
    → IsConfirmedRun texts

-- whatever files are run, the transcript and the report that are made of them are no longer than a file that is read may be
abbrev pub RunsAreShort : Type 0
RunsAreShort =
    (sharing : Sharing) (cupboard : List Meaning) (plan_bytes readings_bytes : List ℕ) (texts : Texts) → MakesBy sharing cupboard plan_bytes readings_bytes texts
    → (length texts.transcript ≤ most_bytes) × (length texts.report ≤ most_bytes)
