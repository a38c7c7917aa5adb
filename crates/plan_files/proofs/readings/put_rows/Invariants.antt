use Rattle.std.proofs.Common.{◌≡◌, ◌≤◌, ◌+◌, drop, length}
use Rattle.plan_files.specs.Readings.{rows_due, rows_fault}
use Rattle.plan_files.specs.Registers.{register_of}
use Rattle.plan_files.specs.RowsLeft.{IsSound, rows_left}
use Rattle.plan_files.proofs.TableLemmas.{FillsAll}
use Rattle.plan_files.proofs.readings.put_rows.Given as goal

-- the rows so far have filled their places, and none of them has a fault
abbrev pub invariant-loop-row : goal.invariant-loop-row
invariant-loop-row l = record {
  few : l.at ≤ rows_due l.plan;
  sound : IsSound l.rows;
  rest : rows_left l.rows ≡ drop l.at (rows_left l.initial.rows);
  long : l.at + length (rows_left l.rows) ≡ length (rows_left l.initial.rows);
  fault : rows_fault (register_of (length l.initial.tables) 0) l.plan 0 (rows_left l.initial.rows)
      ≡ rows_fault (register_of (length l.initial.tables) 0) l.plan l.at (drop l.at (rows_left l.initial.rows));
  filled : FillsAll l.plan (rows_left l.initial.rows) l.at (length l.initial.tables) l.tables;
}

abbrev pub decreases-loop-row : goal.decreases-loop-row
decreases-loop-row l = length (rows_left l.rows)
