use Rattle.std.proofs.Common.{ℕ, ◌+◌, ◌<◌, IsTrue, length, get_or}
use Rattle.std.specs.List.{list_all}
use Rattle.blind_core.specs.Columns.{column}
use Rattle.blind_core.specs.Rows.{is_higher}
use Rattle.blind_core.proofs.ColumnLemmas.{Taken}
use Rattle.blind_core.proofs.rounds.take_row.Given as goal

abbrev pub invariant-loop-high : goal.invariant-loop-high
invariant-loop-high g l = record {
  ends : IsTrue (list_all (is_higher (g.M.Masks.plan l.masks) l.group (l.first + 7) (length l.fn.sums) l.low) l.high-iterator);
  columns : (j : ℕ) → j < 8 → Taken ((g.M.Masks.table l.masks).pair l.group (l.first + j) l.low) l.higher (column 0 j l.fn.sums) l.high-iterator (column 0 j l.sums) (get_or l.total j 0);
}
