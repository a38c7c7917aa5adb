-- How the parts of an audit end.
use Rattle.std.specs.Prelude.{◌≡◌, ℕ, ◌+◌, ◌<◌, List, length, count_by, Option, Some, None, Result, Ok, Err, ⊤}
use Rattle.group_plan.specs.Plans.{PlanView, IsWithinLimits}
use Rattle.ideal_masks.specs.Statements.{IsExplained}
use Rattle.event_schedule.specs.declared.Line.{Line}
use Rattle.event_schedule.specs.Frames.{shape_of_lines, IsPossible, IsPossibleUpTo}
use Rattle.event_schedule.specs.Transcripts.{TranscriptView}
use Rattle.transcript_text.specs.EntryLines.{entry_line}
use Rattle.group_book.specs.Books.{BookView, shape_of}
use Rattle.totals_report.specs.declared.row.ReportRow.{ReportRow}
use Rattle.totals_report.specs.Counts.{is_total}
use Rattle.audit_check.specs.declared.answers.AuditCounts.{AuditCounts}
use Rattle.audit_check.specs.declared.answers.AuditError.{AuditError}
use Rattle.audit_check.specs.declared.answers.AuditError.TheVariants as audit
use Rattle.audit_check.specs.Audits.{lines_in, IsFirstImpossible, DifferFirst}

-- the book has these lines, in their own shape
pub record Holds (plan : PlanView) (ls : List Line) (b : BookView) : Type 0 where
  pub plan_is : b.presence.plan ≡ plan
  pub shape_is : shape_of b ≡ shape_of_lines plan.groups ls
  pub journal_is : b.journal ≡ ls

-- all lines are possible, and the book has them; or those up to line k are, and no further
abbrev pub LinesEnd : PlanView → List Line → Option ℕ → BookView → Type 0
LinesEnd plan ls None b = Holds plan ls b × IsPossible plan.groups ls
LinesEnd plan ls (Some k) b = (k < length ls) × IsPossibleUpTo plan.groups k ls × (¬ IsPossibleUpTo plan.groups (k + 1) ls)

-- all lines are possible and explained, and the book has them
pub record IsReplayed (t : TranscriptView) (b : BookView) : Type 0 where
  pub limits : IsWithinLimits t.plan
  pub holds : Holds t.plan (lines_in t) b
  pub possible : IsPossible t.plan.groups (lines_in t)
  pub explained : IsExplained t.plan.groups (lines_in t)

-- a book of all lines, or the number of the first line that is not possible
abbrev pub ReplayEnds : TranscriptView → Result BookView AuditError → Type 0
ReplayEnds t (Ok b) = IsReplayed t b
ReplayEnds t (Err (audit.Line n)) = (k : ℕ) × (n ≡ entry_line t.plan k) × IsFirstImpossible t k
ReplayEnds t (Err (audit.Row at one other)) = ⊥
ReplayEnds t (Err audit.Memory) = ⊤

-- the rows are the same, and counted; or this is the first that differs
abbrev pub RowsEnd : List ReportRow → List ReportRow → Result AuditCounts AuditError → Type 0
RowsEnd from_frames reported (Ok counts) = (reported ≡ from_frames) × (counts.rows ≡ length reported) × (counts.totals ≡ count_by (λ row. is_total row.outcome) reported)
RowsEnd from_frames reported (Err (audit.Row at one other)) = DifferFirst from_frames reported at one other
RowsEnd from_frames reported (Err (audit.Line n)) = ⊥
RowsEnd from_frames reported (Err audit.Memory) = ⊥
