use Rattle.sparse_masks.specs.Rounds.{graph_of}
use Rattle.sparse_masks.proofs.TreeLoops.{Looking}
use Rattle.sparse_masks.proofs.round.Round.survivor_parent.Given as goal

abbrev pub invariant-loop-other : goal.invariant-loop-other
invariant-loop-other l = Looking (graph_of l.self) l.meter l.other-iterator
