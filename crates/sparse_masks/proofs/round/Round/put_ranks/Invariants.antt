use Rattle.sparse_masks.specs.Rounds.{graph_of}
use Rattle.sparse_masks.proofs.RankLemmas.{Stepped}
use Rattle.sparse_masks.proofs.round.Round.put_ranks.Given as goal

abbrev pub invariant-loop-steps : goal.invariant-loop-steps
invariant-loop-steps l = Stepped (graph_of l.self) l.from l.steps l.reached l.fn.ranks l.ranks
