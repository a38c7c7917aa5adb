use Rattle.std.proofs.Common.{◌≡◌, ◌+◌, length}
use Rattle.plan_files.specs.PlanForms.{after}
use Rattle.plan_files.specs.RowsLeft.{IsSound, rows_left}
use Rattle.meter_files.specs.PartRows.{entries_from}
use Rattle.meter_files.proofs.part_file.read_entries.Given as goal

-- the rows so far are the entries
abbrev pub invariant-loop-row : goal.invariant-loop-row
invariant-loop-row l = record {
  sound : IsSound l.rows;
  number : l.number + length (rows_left l.rows) ≡ 5 + length (rows_left l.initial.rows);
  long : length l.entries.items + length (rows_left l.rows) ≡ length (rows_left l.initial.rows);
  so_far : entries_from 5 (rows_left l.initial.rows) ≡ after l.entries.items (entries_from l.number (rows_left l.rows));
}

abbrev pub decreases-loop-row : goal.decreases-loop-row
decreases-loop-row l = length (rows_left l.rows)
