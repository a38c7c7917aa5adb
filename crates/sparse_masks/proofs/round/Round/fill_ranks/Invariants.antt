use Rattle.sparse_masks.proofs.RankLemmas.{Ranked}
use Rattle.sparse_masks.proofs.round.Round.fill_ranks.Given as goal

abbrev pub invariant-loop-meter : goal.invariant-loop-meter
invariant-loop-meter l = Ranked l.self l.ranks l.meter-iterator
