use Rattle.sparse_masks.proofs.TreeLoops.{Passing}
use Rattle.sparse_masks.proofs.round.Round.passes.Given as goal

abbrev pub invariant-loop-steps : goal.invariant-loop-steps
invariant-loop-steps l = Passing l.self l.through l.from l._steps l.at
