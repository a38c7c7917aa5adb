use Rattle.std.proofs.Common.{◌≡◌, map}
use Rattle.std.specs.List.{range_with_len}
use Rattle.sparse_masks.specs.Trees.{parent}
use Rattle.sparse_masks.specs.Rounds.{graph_of}
use Rattle.sparse_masks.proofs.round.Round.parents_by.Given as goal

abbrev pub invariant-loop-meter : goal.invariant-loop-meter
invariant-loop-meter l = l.parents.items ≡ map (parent (graph_of l.self)) (range_with_len 0 l.meter)
