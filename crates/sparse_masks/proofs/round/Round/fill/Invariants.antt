use Rattle.sparse_masks.proofs.RoundLemmas.{Filled}
use Rattle.sparse_masks.proofs.round.Round.fill.Given as goal

abbrev pub invariant-loop-meter : goal.invariant-loop-meter
invariant-loop-meter l = Filled l.self l.sets l.meter-iterator
