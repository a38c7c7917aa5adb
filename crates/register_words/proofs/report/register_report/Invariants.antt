use Rattle.std.proofs.Common.{◌≡◌, ◌++◌, drop}
use Rattle.event_schedule.specs.Events.{lines_of}
use Rattle.transcript_text.specs.Spelling.{ended}
use Rattle.register_words.specs.SideReports.{lines_from, register_heading}
use Rattle.register_words.proofs.report.register_report.Given as goal

-- the lines so far, and those that are to come
abbrev pub invariant-loop-row : goal.invariant-loop-row
invariant-loop-row l = record {
  place : l.at ≡ l.row-index;
  lines : l.out.items ++ lines_from l.plan (lines_of l.transcript.entries) l.words l.at (drop l.at l.report)
      ≡ ended register_heading ++ lines_from l.plan (lines_of l.transcript.entries) l.words 0 l.report;
}
