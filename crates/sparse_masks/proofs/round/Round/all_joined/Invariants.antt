use Rattle.std.proofs.Common.{◌≡◌, map}
use Rattle.std.specs.List.{range_with_len}
use Rattle.sparse_masks.specs.Trees.{joined_to}
use Rattle.sparse_masks.specs.Rounds.{graph_of}
use Rattle.sparse_masks.proofs.round.Round.all_joined.Given as goal

abbrev pub invariant-loop-meter : goal.invariant-loop-meter
invariant-loop-meter l = l.sets.items ≡ map (joined_to (graph_of l.self)) (range_with_len 0 l.meter)
