-- What the laws of this crate say. Each is proved for every plan and all lines.
use Rattle.std.specs.Prelude.{◌≡◌, ℕ, ◌+◌, ◌<◌, true, List, [], ◌++◌, length, map, Result, Ok, Err, ⊤}
use Rattle.group_plan.specs.Plans.{Group}
use Rattle.event_schedule.specs.declared.Line.{Line}
use Rattle.event_schedule.specs.Events.{event_of}
use Rattle.event_schedule.specs.Tables.{Readings, Masks}
use Rattle.event_schedule.specs.Schedule.{Shape, is_opened, survivors}
use Rattle.event_schedule.specs.Transcript.{lines_after}
use Rattle.event_schedule.specs.Frames.{shape_of_lines, contents_of_lines, IsPossible, IsPossibleUpTo}
use Rattle.event_schedule.specs.Journal.{past_of}
use Rattle.event_schedule.specs.Transcripts.{TranscriptView, IsTranscript}
use Rattle.group_book.specs.Replay.{IsJournal}
use Rattle.run_rows.specs.Report.{Row}
use Rattle.totals_report.specs.Reports.{report_rows}
use Rattle.audit_check.specs.declared.answers.AuditCounts.{AuditCounts}
use Rattle.audit_check.specs.declared.answers.AuditError.{AuditError}
use Rattle.audit_check.specs.declared.answers.AuditError.TheVariants as audit
use Rattle.audit_check.specs.Audits.{Explain, row_by_readings, AuditEnds}

-- ---- possible lines

-- lines that are possible up to one line are possible up to the line before it
abbrev pub PossibleBefore : Type 0
PossibleBefore = (groups : List Group) (ls : List Line) (n : ℕ) → IsPossibleUpTo groups (n + 1) ls → IsPossibleUpTo groups n ls

-- a round that some lines open is opened with more lines too, with the same survivors and the same frame total
pub record StaysOpened (groups : List Group) (ls more : List Line) (g r : ℕ) : Type 0 where
  pub opened : is_opened (shape_of_lines groups (ls ++ more)) g r (past_of (ls ++ more)) ≡ true
  pub survivors_stay : survivors (shape_of_lines groups (ls ++ more)) g r (past_of (ls ++ more)) ≡ survivors (shape_of_lines groups ls) g r (past_of ls)
  pub total_stays :
      (contents_of_lines (ls ++ more)).total g r (survivors (shape_of_lines groups ls) g r (past_of ls))
      ≡ (contents_of_lines ls).total g r (survivors (shape_of_lines groups ls) g r (past_of ls))

-- what is opened in possible lines stays as it was when it was opened
abbrev pub OpenedRoundsStay : Type 0
OpenedRoundsStay = (groups : List Group) (ls more : List Line) (g r : ℕ) → IsPossible groups ls →
    is_opened (shape_of_lines groups ls) g r (past_of ls) ≡ true → StaysOpened groups ls more g r

-- the lines of a book are what their own frames make of their events, whatever was sent and taken: possible lines but for the bound on totals
abbrev pub JournalsAreTold : Type 0
JournalsAreTold = (s : Shape) (journal : List Line) → IsJournal s journal → lines_after s (contents_of_lines journal) [] (map event_of journal) ≡ journal

-- ---- honest runs

-- the audit finds no fault
abbrev pub FindsNone : Result AuditCounts AuditError → Type 0
FindsNone (Ok counts) = ⊤
FindsNone (Err audit.Memory) = ⊤
FindsNone (Err _) = ⊥

-- the lines are the transcript of these readings under these masks, and each row of the report is that of its round's outcome, with the plain sum
pub record IsHonest (t : TranscriptView) (x : Readings) (m : Masks) (row_at : ℕ → ℕ → Row) : Type 0 where
  pub is_one : IsTranscript t
  pub explain : Explain t x m
  pub rows : (g r : ℕ) → g < length t.plan.groups → r < t.plan.rounds → row_by_readings t x g r ≡ row_at g r

-- an honest transcript and its report are accepted
abbrev pub HonestAreAccepted : Type 0
HonestAreAccepted = (t : TranscriptView) (x : Readings) (m : Masks) (row_at : ℕ → ℕ → Row) (result : Result AuditCounts AuditError) →
    IsHonest t x m row_at → AuditEnds t (report_rows t.plan row_at) result → FindsNone result
