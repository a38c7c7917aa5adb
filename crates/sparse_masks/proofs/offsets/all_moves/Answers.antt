use Rattle.std.proofs.Common.{◌++◌, []}
use Rattle.std.specs.List.{flat_map, range_with_len}
use Rattle.group_plan.specs.Plans.{size}
use Rattle.ideal_masks.specs.Moves.{own_list, pair_list}
use Rattle.ideal_masks.proofs.RowLists.{list-more}
use Rattle.sparse_masks.specs.SideParts.{moves_between}
use Rattle.sparse_masks.proofs.offsets.all_moves.Goals as goal

pub loop-group-preserved : goal.loop-group-preserved
loop-group-preserved c =
    let b = c.args.book.now in
    let o = moves_between c.args.width c.args.first.now c.args.second.now b in
    list-more (λ g. flat_map (λ r. own_list o g r (size b.presence.plan.groups g) ++ pair_list o g r (size b.presence.plan.groups g)) (range_with_len 0 b.presence.plan.rounds))
    c.loop-group.group [] c.loop-group.moves.items c.add_group.new.moves.items c.loop-group.invariant c.in_ok-add_group.ensures
