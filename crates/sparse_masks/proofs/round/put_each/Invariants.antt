use Rattle.std.proofs.Common.{List, [], ℕ}
use Rattle.sparse_masks.proofs.RoundLemmas.{Put}
use Rattle.sparse_masks.proofs.round.put_each.Given as goal

abbrev pub invariant-loop-meter : goal.invariant-loop-meter
invariant-loop-meter l = Put (List ℕ) l.set [] l.set l.fn.sets l.sets l.meter-iterator
