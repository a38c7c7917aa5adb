use Rattle.std.proofs.Common.{◌≡◌, ◌+◌, length}
use Rattle.plan_files.specs.PlanForms.{after, entries_from}
use Rattle.plan_files.specs.RowsLeft.{IsSound, rows_left}
use Rattle.plan_files.proofs.entry.read_entries.Given as goal

-- the rows so far are the entries
abbrev pub invariant-loop-row : goal.invariant-loop-row
invariant-loop-row l = record {
  sound : IsSound l.rows;
  long : length l.entries.items + length (rows_left l.rows) ≡ length (rows_left l.fn.rows);
  so_far : entries_from l.fn.form l.first (rows_left l.fn.rows) ≡ after l.entries.items (entries_from l.fn.form (l.first + length l.entries.items) (rows_left l.rows));
}

abbrev pub decreases-loop-row : goal.decreases-loop-row
decreases-loop-row l = length (rows_left l.rows)
