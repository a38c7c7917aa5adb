-- The opened rounds of a transcript: how many have no total, and the fewest survivors of any.
use Rattle.std.specs.Prelude.{◌≡◌, ℕ, ◌≤◌, Bool, true, false, ◌&&◌, not, List, length, reverse, Option, Some, None, Result, Ok, Err}
use Rattle.std.specs.List.{count_by, sum_by, range_with_len}
use Rattle.group_plan.specs.Plans.{PlanView}
use Rattle.event_schedule.specs.Events.{events_of}
use Rattle.event_schedule.specs.Schedule.{is_opened, is_published, survivors}
use Rattle.event_schedule.specs.Frames.{shape_of_lines}
use Rattle.event_schedule.specs.Transcripts.{TranscriptView}
use Rattle.group_book.specs.Places.{is_round}
use Rattle.totals_report.specs.declared.row.ReportRow.{ReportRow}
use Rattle.audit_check.specs.declared.answers.AuditError.{AuditError}
use Rattle.audit_check.specs.declared.answers.Inspected.{Inspected}
use Rattle.audit_check.specs.declared.opened.OpenedRounds.{OpenedRounds}
use Rattle.audit_check.specs.Audits.{lines_in, IsConfirmed, AuditEnds}

-- a round is opened by the events of a transcript, at any time, also after its End
abbrev pub is_opened_in : TranscriptView → ℕ → ℕ → Bool
is_opened_in t g r = is_opened (shape_of_lines t.plan.groups (lines_in t)) g r (reverse (events_of t.entries))

-- its total is published
abbrev pub is_published_in : TranscriptView → ℕ → ℕ → Bool
is_published_in t g r = is_published (shape_of_lines t.plan.groups (lines_in t)) g r (reverse (events_of t.entries))

-- its survivors
abbrev pub survivors_in : TranscriptView → ℕ → ℕ → List ℕ
survivors_in t g r = survivors (shape_of_lines t.plan.groups (lines_in t)) g r (reverse (events_of t.entries))

-- it is opened, and has no total
abbrev pub lacks_total : TranscriptView → ℕ → ℕ → Bool
lacks_total t g r = is_opened_in t g r && not (is_published_in t g r)

-- of how many rounds of a plan this holds
abbrev pub count_rounds : PlanView → (ℕ → ℕ → Bool) → ℕ
count_rounds plan test = sum_by (λ g. count_by (test g) (range_with_len 0 plan.rounds)) (range_with_len 0 (length plan.groups))

-- an opened round among these has so many survivors
pub record IsSize (among opened : ℕ → ℕ → Bool) (size : ℕ → ℕ → ℕ) (n : ℕ) : Type 0 where
  pub group : ℕ
  pub round : ℕ
  pub among_is : among group round ≡ true
  pub opened_is : opened group round ≡ true
  pub size_is : size group round ≡ n

-- the fewest survivors of any opened round among these; none where none is opened
abbrev pub IsFewest : (among opened : ℕ → ℕ → Bool) → (size : ℕ → ℕ → ℕ) → Option ℕ → Type 0
IsFewest among opened size None = (g r : ℕ) → among g r ≡ true → opened g r ≡ false
IsFewest among opened size (Some n) = IsSize among opened size n × ((g r : ℕ) → among g r ≡ true → opened g r ≡ true → n ≤ size g r)

-- how many opened rounds of the plan have no total, and the fewest survivors of any opened round of it
pub record AreCounted (t : TranscriptView) (found : OpenedRounds) : Type 0 where
  pub without_total : found.without_total ≡ count_rounds t.plan (lacks_total t)
  pub fewest : IsFewest (is_round t.plan) (is_opened_in t) (λ g r. length (survivors_in t g r)) found.fewest

-- as an audit, and the opened rounds are counted where the report is confirmed
abbrev pub InspectEnds : TranscriptView → List ReportRow → Result Inspected AuditError → Type 0
InspectEnds t rows (Ok found) = IsConfirmed t rows found.counts × AreCounted t found.opened
InspectEnds t rows (Err error) = AuditEnds t rows (Err error)
