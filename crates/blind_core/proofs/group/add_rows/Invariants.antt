use Rattle.blind_core.proofs.RowLoop.{Rows}
use Rattle.blind_core.proofs.group.add_rows.Given as goal

abbrev pub invariant-loop-low : goal.invariant-loop-low
invariant-loop-low g l =
    Rows (g.M.Masks.plan l.masks) l.group l.round ((g.M.Masks.table l.masks).pair l.group l.round) l.members l.fn.sums l.low-iterator l.sums l.higher
