use Rattle.sparse_masks.specs.Opened.{FewestGoesOn}
use Rattle.sparse_masks.proofs.round.Round.fewest.Given as goal

abbrev pub invariant-loop-meter : goal.invariant-loop-meter
invariant-loop-meter l = FewestGoesOn l.self l.fn.fewest l.meter l.least
