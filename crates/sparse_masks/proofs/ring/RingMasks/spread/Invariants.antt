use Rattle.std.proofs.Common.{drop}
use Rattle.group_plan.specs.Plans.{size}
use Rattle.mask_stream.specs.Ends.{between}
use Rattle.sparse_masks.specs.Neighbours.{are_neighbours}
use Rattle.sparse_masks.proofs.RowLemmas.{Spread}
use Rattle.sparse_masks.proofs.ring.RingMasks.spread.Given as goal

abbrev pub invariant-loop-other : goal.invariant-loop-other
invariant-loop-other g l =
    Spread (are_neighbours l.self.width (size l.self.plan.now.groups l.group) l.meter) (between ((g.M.Masks.table l.self.masks.now).pair l.group l.round) l.meter)
    l.others l.other-iterator (drop l.place l.words) l.spread.items
