use Rattle.std.proofs.Common.{◌≡◌, ◌+◌, length, drop}
use Rattle.plan_files.specs.PlanForms.{after, groups_from}
use Rattle.plan_files.specs.RowsLeft.{IsSound, rows_left}
use Rattle.plan_files.proofs.head.read_groups.Given as goal

-- the rows so far are the groups
abbrev pub invariant-loop-row : goal.invariant-loop-row
invariant-loop-row l = record {
  sound : IsSound l.rows;
  rest : rows_left l.rows ≡ drop (length l.groups.items) (rows_left l.initial.rows);
  long : length l.groups.items + length (rows_left l.rows) ≡ length (rows_left l.initial.rows);
  so_far : groups_from 4 (rows_left l.initial.rows) ≡ after l.groups.items (groups_from (length l.groups.items + 4) (rows_left l.rows));
}

abbrev pub decreases-loop-row : goal.decreases-loop-row
decreases-loop-row l = length (rows_left l.rows)
