-- Whole runs: tick runs with the lines of a transcript, and what their report and summary are.
use Rattle.std.specs.Prelude.{◌≡◌, ℕ, ◌<◌, List, [], length, reverse}
use Rattle.link_lanes.specs.Lanes.{Slot}
use Rattle.event_schedule.specs.declared.Entry.{Entry}
use Rattle.event_schedule.specs.Events.{events_of, lines_of}
use Rattle.event_schedule.specs.Schedule.{Shape}
use Rattle.event_schedule.specs.Transcript.{Contents, lines_after}
use Rattle.run_rows.specs.Ticks.{Clock, HaveDelays, IsTickRun}
use Rattle.run_rows.specs.Report.{fate_at, row, outcome_row}
use Rattle.run_rows.specs.Summary.{summary_of_lines, summary_of_posts}
use Rattle.run_rows.specs.Posts.{posts_by_lanes}

-- a tick run whose lines are those of its events
pub record IsRun (s : Shape) (c : Clock) (slots : List Slot) (words : Contents) (entries : List Entry) : Type 0 where
  pub run : IsTickRun s c slots entries
  pub delays : HaveDelays entries
  pub lines : lines_of entries ≡ lines_after s words [] (events_of entries)

-- its rows and its summary are those by the lanes alone
pub record IsReported (s : Shape) (c : Clock) (slots : List Slot) (words : Contents) (entries : List Entry) : Type 0 where
  pub rows : (g r : ℕ) → g < length s.groups → r < c.rounds →
      outcome_row s words.total g r (reverse (events_of entries)) ≡ row s c (fate_at (posts_by_lanes s c slots)) words.total g r
  pub summary : summary_of_lines s c words.total (lines_of entries) ≡ summary_of_posts s c words.total (posts_by_lanes s c slots)
