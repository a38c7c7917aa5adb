use Rattle.std.proofs.Common.{length}
use Rattle.sparse_masks.specs.Trees.{passes}
use Rattle.sparse_masks.specs.Rounds.{graph_of}
use Rattle.sparse_masks.proofs.RoundLemmas.{Chosen}
use Rattle.sparse_masks.proofs.round.Round.passing.Given as goal

abbrev pub invariant-loop-from : goal.invariant-loop-from
invariant-loop-from l = Chosen l.self (passes (graph_of l.self) (length l.self.survivors) l.through) l.from-iterator l.passing
