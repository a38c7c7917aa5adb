use Rattle.std.proofs.Common.{◌++◌}
use Rattle.group_plan.specs.Plans.{size}
use Rattle.ideal_masks.specs.Moves.{own_list, pair_list}
use Rattle.ideal_masks.proofs.RowLists.{list-more}
use Rattle.sparse_masks.specs.SideParts.{moves_between}
use Rattle.sparse_masks.proofs.offsets.add_group.Goals as goal

pub loop-round-preserved : goal.loop-round-preserved
loop-round-preserved c =
    let b = c.args.book.now in
    let o = moves_between c.args.width c.args.first.now c.args.second.now b in
    let n = size b.presence.plan.groups c.args.group in
    list-more (λ r. own_list o c.args.group r n ++ pair_list o c.args.group r n) c.loop-round.round c.args.moves.now.items c.loop-round.moves.items c.add_round.new.moves.items c.loop-round.invariant c.in_ok-add_round.ensures
