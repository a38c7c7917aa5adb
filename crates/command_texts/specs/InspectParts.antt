-- What the parts of `inspect` answer.
use Rattle.command_texts.specs.declared.inspect.InspectTexts.{InspectTexts}
use Rattle.command_texts.specs.Inspecting.{InspectBytes, TextsRefuse, JudgeRefuses, IsInspected}
use Rattle.std.specs.Prelude.{◌≡◌, ℕ, List, Result, Ok, Err}
use Rattle.group_plan.specs.Plans.{PlanView}
use Rattle.event_schedule.specs.Transcripts.{TranscriptView}
use Rattle.totals_report.specs.declared.row.ReportRow.{ReportRow}
use Rattle.command_words.specs.declared.outcome.Outcome.{Outcome}
use Rattle.command_words.specs.Words.{InspectNames}
use Rattle.command_texts.specs.Audits.{AreAuditTexts}
use Rattle.audit_check.specs.declared.answers.Inspected.{Inspected}

-- the bytes that are borrowed, and those of the transcript
abbrev pub inspect_bytes_with : InspectTexts → List ℕ → InspectBytes
inspect_bytes_with texts transcript = record { public = texts.public.now; transcript = transcript; report = texts.report.now }

-- both texts are read, and the transcript is of the plan; or they are refused
abbrev pub TextsRead : InspectNames → PlanView → (transcript report : List ℕ) → Result (TranscriptView × List ReportRow) Outcome → Type 0
TextsRead names plan tb rb (Ok both) = (both.0.plan ≡ plan) × AreAuditTexts tb rb both.0 both.1
TextsRead names plan tb rb (Err outcome) = TextsRefuse names plan tb rb outcome

-- the transcript is a run of its plan and the report is confirmed; or they are refused
abbrev pub Judged : (transcript : List ℕ) → TranscriptView → List ReportRow → Result Inspected Outcome → Type 0
Judged transcript t rows (Ok found) = IsInspected t rows found
Judged transcript t rows (Err outcome) = JudgeRefuses transcript t rows outcome
