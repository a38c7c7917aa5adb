-- Audits: what a transcript says by its frames alone, and how the audit of a transcript and a report ends.
use Rattle.std.specs.Prelude.{◌≡◌, ◌≢◌, ℕ, ◌+◌, ◌-◌, ◌^◌, ◌<◌, ◌≤◌, List, length, take, reverse, count_by, slice_get, Option, Result, Ok, Err, ⊤}
use Rattle.event_schedule.specs.declared.Line.{Line}
use Rattle.event_schedule.specs.Events.{lines_of, events_of}
use Rattle.event_schedule.specs.Tables.{Readings, Masks, reading_at, plain_sum, IsOfPlan}
use Rattle.event_schedule.specs.Transcript.{shape_of_readings, transcript}
use Rattle.event_schedule.specs.Frames.{shape_of_lines, contents_of_lines, IsPossible, IsPossibleUpTo}
use Rattle.event_schedule.specs.Transcripts.{TranscriptView}
use Rattle.transcript_text.specs.EntryLines.{entry_line}
use Rattle.ideal_masks.specs.Statements.{IsExplained}
use Rattle.run_rows.specs.Report.{Row, outcome_row}
use Rattle.totals_report.specs.declared.row.ReportRow.{ReportRow}
use Rattle.totals_report.specs.Counts.{is_total}
use Rattle.totals_report.specs.Reports.{report_rows}
use Rattle.audit_check.specs.declared.answers.AuditCounts.{AuditCounts}
use Rattle.audit_check.specs.declared.answers.AuditError.{AuditError}
use Rattle.audit_check.specs.declared.answers.AuditError.TheVariants as audit

-- the lines of a transcript
abbrev pub lines_in : TranscriptView → List Line
lines_in t = lines_of t.entries

-- ---- what the frames give

-- the row of a round by its outcome, with the frame total in the place of the sum
abbrev pub row_by_frames : TranscriptView → ℕ → ℕ → Row
row_by_frames t g r = outcome_row (shape_of_lines t.plan.groups (lines_in t)) (contents_of_lines (lines_in t)).total g r (reverse (events_of t.entries))

-- the rows of a transcript, one for each group and round, in order
unfoldable pub rows_by_frames : TranscriptView → List ReportRow
rows_by_frames t = report_rows t.plan (row_by_frames t)

-- ---- what readings give

-- these readings, of members alone and within the limits, and these masks explain the lines: the lines are their transcript
pub record Explain (t : TranscriptView) (x : Readings) (m : Masks) : Type 0 where
  pub of_plan : IsOfPlan t.plan.groups x
  pub small : (g r i : ℕ) → reading_at x g r i < 2 ^ 40
  pub lines : lines_in t ≡ transcript t.plan.groups x m (events_of t.entries)

-- the row of a round by its outcome: its survivors, and where it has a total, the plain sum of their readings
abbrev pub row_by_readings : TranscriptView → Readings → ℕ → ℕ → Row
row_by_readings t x g r = outcome_row (shape_of_readings t.plan.groups x) (plain_sum x) g r (reverse (events_of t.entries))

-- whichever readings and masks explain the lines: each total of the rows is the plain sum of these readings over its survivors, and each row's
-- survivors, missing meters and outcome are those of the lines
abbrev pub AreExact : TranscriptView → List ReportRow → Type 0
AreExact t rows = (x : Readings) (m : Masks) → Explain t x m → rows ≡ report_rows t.plan (row_by_readings t x)

-- ---- how an audit ends

-- the lines are possible up to the line of entry k, which is none of them, and no further: no readings and no masks explain them with that line
pub record IsFirstImpossible (t : TranscriptView) (k : ℕ) : Type 0 where
  pub within : k < length t.entries
  pub before : (n : ℕ) → n ≤ k → IsPossibleUpTo t.plan.groups n (lines_in t)
  pub here : ¬ IsPossibleUpTo t.plan.groups (k + 1) (lines_in t)
  pub unexplained : ¬ IsExplained t.plan.groups (take (k + 1) (lines_in t))

-- place `at`, counted from 1, is the first at which two lists of rows differ; this is what each has there
pub record DifferFirst (from_frames reported : List ReportRow) (at : ℕ) (one other : Option ReportRow) : Type 0 where
  pub counted : 1 ≤ at
  pub before : take (at - 1) from_frames ≡ take (at - 1) reported
  pub one_is : slice_get from_frames (at - 1) ≡ one
  pub other_is : slice_get reported (at - 1) ≡ other
  pub differ : one ≢ other

-- the lines are possible, so there are readings and masks of which they are the transcript; the rows are those that the frames give, and exact in
-- each world of such readings and masks
pub record IsConfirmed (t : TranscriptView) (rows : List ReportRow) (counts : AuditCounts) : Type 0 where
  pub possible : IsPossible t.plan.groups (lines_in t)
  pub explained : IsExplained t.plan.groups (lines_in t)
  pub report : rows ≡ rows_by_frames t
  pub exact : AreExact t rows
  pub rows_are : counts.rows ≡ length rows
  pub totals_are : counts.totals ≡ count_by (λ row. is_total row.outcome) rows

-- the lines are possible, and the rows are others than those that the frames give
pub record IsContradicted (t : TranscriptView) (rows : List ReportRow) (at : ℕ) (from_frames reported : Option ReportRow) : Type 0 where
  pub possible : IsPossible t.plan.groups (lines_in t)
  pub first : DifferFirst (rows_by_frames t) rows at from_frames reported

-- the audit of a transcript and the rows of a report; want of memory is free
abbrev pub AuditEnds : TranscriptView → List ReportRow → Result AuditCounts AuditError → Type 0
AuditEnds t rows (Ok counts) = IsConfirmed t rows counts
AuditEnds t rows (Err (audit.Line n)) = (k : ℕ) × (n ≡ entry_line t.plan k) × IsFirstImpossible t k
AuditEnds t rows (Err (audit.Row at from_frames reported)) = IsContradicted t rows at from_frames reported
AuditEnds t rows (Err audit.Memory) = ⊤
