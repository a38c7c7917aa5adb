use Rattle.std.proofs.Common.{◌≡◌, ◌+◌, ◌++◌, drop}
use Rattle.pair_keys.specs.Keys.{table_of}
use Rattle.event_schedule.specs.Events.{lines_of}
use Rattle.register_words.specs.Readings.{AreReady}
use Rattle.register_words.specs.Sides.{side_rows}
use Rattle.register_words.proofs.side.side_words.Given as goal

-- the words of readings are ready, and so are the rows of the entries so far, before those that are to come
abbrev pub invariant-loop-at : goal.invariant-loop-at
invariant-loop-at g l =
    AreReady l.tables (table_of l.keys) l.readings
    × (l.rows.items ++ side_rows l.tables (table_of l.keys) (l.first + l.at) (drop l.at (lines_of l.transcript.entries))
    ≡ side_rows l.tables (table_of l.keys) l.first (lines_of l.transcript.entries))
