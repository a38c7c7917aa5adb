use Rattle.std.proofs.Common.{drop}
use Rattle.blind_core.proofs.WordLoops.{Owns}
use Rattle.blind_core.proofs.group.put_owns.Given as goal

abbrev pub invariant-loop-meter : goal.invariant-loop-meter
invariant-loop-meter g l =
    Owns ((g.M.Masks.table l.masks).own l.group l.round) l.members l.fn.sums l.meter-iterator l.sums (drop l.place l.words)
