-- A run that is over.
use Rattle.std.specs.Prelude.{◌≡◌, ℕ, IsTrue, List}
use Rattle.group_plan.specs.Plans.{IsWithinLimits}
use Rattle.group_plan.specs.Tables.{ReadingsView, IsReadingTable, reading, presence_of}
use Rattle.missing_round.specs.Masks.{Masks}
use Rattle.pair_keys.specs.Keys.{Keys}
use Rattle.mask_stream.specs.KeyStreams.{streams}
use Rattle.link_lanes.specs.Lanes.{Slot}
use Rattle.event_schedule.specs.declared.Entry.{Entry}
use Rattle.event_schedule.specs.Events.{events_of, lines_of}
use Rattle.event_schedule.specs.Frames.{contents_of_lines}
use Rattle.event_schedule.specs.Schedule.{shape_of_presence}
use Rattle.event_schedule.specs.Transcript.{transcript}
use Rattle.run_rows.specs.Report.{fate_at, outcome_row, row}
use Rattle.run_rows.specs.Ticks.{clock_of, HaveDelays, IsTickRun, posts_of}
use Rattle.event_schedule.specs.Transcripts.{TranscriptView}
use Rattle.group_book.specs.Books.{BookView, has_round, past, shape_of}

-- the entries are a tick run whose lines are the transcript of its events under these mask words; the book has these lines
pub record IsFinishedUnder (readings : ReadingsView) (m : Masks) (slots : List Slot) (book : BookView) (t : TranscriptView) : Type 0 where
  pub limits : IsWithinLimits readings.plan
  pub table : IsReadingTable readings.plan readings.table
  pub ticks : IsTickRun (shape_of_presence (presence_of readings)) (clock_of readings.plan) slots t.entries
  pub delays : HaveDelays t.entries
  pub lines : lines_of t.entries ≡ transcript readings.plan.groups (reading readings.table) m (events_of t.entries)
  pub plan : t.plan ≡ readings.plan
  pub presence : book.presence ≡ presence_of readings
  pub journal : book.journal ≡ lines_of t.entries

-- so are they under the stream words of the keys
abbrev pub IsFinished : ReadingsView → Keys → List Slot → BookView → TranscriptView → Type 0
IsFinished readings keys slots book t = IsFinishedUnder readings (streams keys) slots book t

-- the outcome of each round of a book is the row by the fates of these entries, with the totals of the book's frames
abbrev pub HasRowsOf : List Entry → BookView → Type 0
HasRowsOf entries b = (g r : ℕ) → IsTrue (has_round b g r) →
    outcome_row (shape_of b) (contents_of_lines b.journal).total g r (past b)
    ≡ row (shape_of b) (clock_of b.presence.plan) (fate_at (posts_of entries)) (contents_of_lines b.journal).total g r
