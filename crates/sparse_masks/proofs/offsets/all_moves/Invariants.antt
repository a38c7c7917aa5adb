use Rattle.std.proofs.Common.{◌++◌, []}
use Rattle.std.specs.List.{flat_map, range_with_len}
use Rattle.group_plan.specs.Plans.{size}
use Rattle.ideal_masks.specs.Moves.{own_list, pair_list}
use Rattle.ideal_masks.proofs.RowLists.{IsListTo}
use Rattle.sparse_masks.specs.SideParts.{moves_between}
use Rattle.sparse_masks.proofs.offsets.all_moves.Given as goal

abbrev pub invariant-loop-group : goal.invariant-loop-group
invariant-loop-group l =
    IsListTo (λ g. flat_map (λ r. own_list (moves_between l.width l.first l.second l.book) g r (size l.book.presence.plan.groups g) ++ pair_list (moves_between l.width l.first l.second l.book) g r (size l.book.presence.plan.groups g)) (range_with_len 0 l.book.presence.plan.rounds)) l.group [] l.moves.items
