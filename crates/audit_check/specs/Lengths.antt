-- How long the texts of a run are.
use Rattle.std.specs.Prelude.{ℕ, ◌^◌, ◌≤◌, Bool, List, length}
use Rattle.group_plan.specs.Plans.{PlanView, IsWithinLimits}
use Rattle.link_lanes.specs.Lanes.{Slot}
use Rattle.event_schedule.specs.Schedule.{Shape}
use Rattle.event_schedule.specs.Transcript.{Contents}
use Rattle.event_schedule.specs.Transcripts.{TranscriptView, IsTranscript}
use Rattle.transcript_text.specs.Spelling.{transcript_text}
use Rattle.run_rows.specs.Report.{Row}
use Rattle.run_rows.specs.Runs.{IsRun}
use Rattle.run_rows.specs.Ticks.{clock_of, IsRunPlan}
use Rattle.totals_report.specs.Reports.{report_rows, report_text}
use Rattle.totals_report.specs.Rows.{AreRows}

-- a plan with this presence
abbrev pub shape_with : PlanView → (ℕ → ℕ → ℕ → Bool) → Shape
shape_with plan present = record { groups = plan.groups; present = present }

-- the text of a run's transcript has at most 2^28 bytes, whatever the presence, the lanes and the words are
abbrev pub TranscriptsAreShort : Type 0
TranscriptsAreShort = (t : TranscriptView) (present : ℕ → ℕ → ℕ → Bool) (slots : List Slot) (words : Contents) → IsTranscript t →
    IsRunPlan (shape_with t.plan present) (clock_of t.plan) → IsRun (shape_with t.plan present) (clock_of t.plan) slots words t.entries →
    length (transcript_text t) ≤ 2 ^ 28

-- and so has the text of its report
abbrev pub ReportsAreShort : Type 0
ReportsAreShort = (plan : PlanView) (row_at : ℕ → ℕ → Row) → IsWithinLimits plan → AreRows (report_rows plan row_at) → length (report_text plan row_at) ≤ 2 ^ 28
