use Rattle.std.proofs.Common.{◌≤◌, take}
use Rattle.event_schedule.specs.Events.{lines_of}
use Rattle.register_words.proofs.ReportLemmas.{Noted}
use Rattle.register_words.proofs.report.first_rows.Given as goal

abbrev pub invariant-loop-at : goal.invariant-loop-at
invariant-loop-at l = (l.row ≤ l.at) × Noted l.transcript.plan l.kind (lines_of (take l.at l.transcript.entries)) l.row l.rows.items
