use Rattle.std.proofs.Common.{ℕ}
use Rattle.sparse_masks.proofs.RoundLemmas.{Put}
use Rattle.sparse_masks.proofs.trees.put_steps.Given as goal

abbrev pub invariant-loop-meter : goal.invariant-loop-meter
invariant-loop-meter l = Put ℕ l.steps 0 l.fn.meters l.fn.ranks l.ranks l.meter-iterator
