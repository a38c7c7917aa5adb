use Rattle.std.proofs.Common.{ℕ, ◌<◌}
use Rattle.std.specs.Prelude.{slice_index_or}
use Rattle.group_plan.specs.Tables.{IsReadingTable, ReadingsView}
use Rattle.plan_files.proofs.readings.are_tables.Given as goal

-- the tables so far are reading tables
abbrev pub invariant-loop-at : goal.invariant-loop-at
invariant-loop-at l = (d : ReadingsView) (k : ℕ) → k < l.at → IsReadingTable (slice_index_or l.tables k d).plan (slice_index_or l.tables k d).table
