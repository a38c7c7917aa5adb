use Rattle.std.proofs.Common.{◌++◌}
use Rattle.group_plan.specs.Plans.{size}
use Rattle.ideal_masks.specs.Moves.{own_list, pair_list}
use Rattle.ideal_masks.proofs.RowLists.{IsListTo}
use Rattle.sparse_masks.specs.SideParts.{moves_between}
use Rattle.sparse_masks.proofs.offsets.add_group.Given as goal

abbrev pub invariant-loop-round : goal.invariant-loop-round
invariant-loop-round l =
    IsListTo (λ r. own_list (moves_between l.width l.first l.second l.book) l.group r (size l.book.presence.plan.groups l.group) ++ pair_list (moves_between l.width l.first l.second l.book) l.group r (size l.book.presence.plan.groups l.group)) l.round l.fn.moves.items l.moves.items
