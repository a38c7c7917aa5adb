use Rattle.sparse_masks.proofs.OutsideLemmas.{near-from}
use Rattle.sparse_masks.proofs.neighbours.neighbours_among.Goals as goal

pub returns-clause-neighbours : goal.returns-clause-neighbours
returns-clause-neighbours c =
    near-from c.args.width c.args.meters c.args.meter c.from-at.result c.from-width.result c.saturating_sub-around.result c.saturating_add.result c.saturating_sub.result c.saturating_sub-2.result
    c.args.others.now c.outside-above.result c.outside-near.result c.without.result c.outside-above.ensures.set
    c.from-at.ensures c.from-width.ensures c.saturating_sub-around.ensures c.saturating_add.ensures c.saturating_sub.ensures c.saturating_sub-2.ensures
    c.outside-above.ensures.outside c.outside-near.ensures.outside c.without.ensures
