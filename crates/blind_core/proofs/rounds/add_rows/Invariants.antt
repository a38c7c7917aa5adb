use Rattle.std.proofs.Common.{ℕ, ◌+◌, ◌<◌}
use Rattle.blind_core.specs.Columns.{column}
use Rattle.blind_core.proofs.RowLoop.{Rows}
use Rattle.blind_core.proofs.rounds.add_rows.Given as goal

abbrev pub invariant-loop-low : goal.invariant-loop-low
invariant-loop-low g l =
    (j : ℕ) → j < 8
    → Rows (g.M.Masks.plan l.masks) l.group (l.first + 7) ((g.M.Masks.table l.masks).pair l.group (l.first + j)) l.members (column 0 j l.fn.sums) l.low-iterator (column 0 j l.sums) l.higher
