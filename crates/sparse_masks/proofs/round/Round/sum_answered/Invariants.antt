use Rattle.sparse_masks.proofs.DeltaLemmas.{Summed}
use Rattle.sparse_masks.proofs.round.Round.sum_answered.Given as goal

abbrev pub invariant-loop-meter : goal.invariant-loop-meter
invariant-loop-meter l = Summed l.self l.deltas l.fn.members l.meter-iterator l.sum
