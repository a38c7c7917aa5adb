use Rattle.std.proofs.Common.{◌||◌}
use Rattle.missing_round.specs.Sets.{is_member}
use Rattle.sparse_masks.specs.Trees.{touches}
use Rattle.sparse_masks.specs.Rounds.{graph_of}
use Rattle.sparse_masks.proofs.RoundLemmas.{Chosen}
use Rattle.sparse_masks.proofs.round.Round.widened.Given as goal

abbrev pub invariant-loop-meter : goal.invariant-loop-meter
invariant-loop-meter l = Chosen l.self (λ j. is_member j l.set || touches (graph_of l.self) l.set j) l.meter-iterator l.wider
