use Rattle.std.proofs.Common.{length, drop}
use Rattle.blind_core.specs.Rows.{is_higher}
use Rattle.blind_core.proofs.WordLoops.{Row}
use Rattle.blind_core.proofs.group.take_row.Given as goal

abbrev pub invariant-loop-high : goal.invariant-loop-high
invariant-loop-high g l =
    Row ((g.M.Masks.table l.masks).pair l.group l.round l.low) (is_higher (g.M.Masks.plan l.masks) l.group l.round (length l.sums) l.low) l.higher l.fn.sums l.high-iterator l.sums (drop l.place l.words) l.total
