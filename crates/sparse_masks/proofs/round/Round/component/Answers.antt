use Rattle.std.proofs.Common.{◌+◌, ◌-◌, ap}
use Rattle.sparse_masks.proofs.StretchLemmas.{stretch-is}
use Rattle.sparse_masks.proofs.round.Round.component.Goals as goal

pub returns : goal.returns
returns c =
    let r = c.args.self.now in
    let up = c.reach.result in
    let down = c.reach-2.result in
    stretch-is r c.args.meter up down (c.from.result + up + 1) (c.from-2.result + r.meters - down) c.saturating_sub.result c.saturating_sub-2.result c.outside-rest.result c.outside.result
    c.requires.round c.requires.survivor c.reach.ensures c.reach-2.ensures (ap (λ k. k + up + 1) c.from.ensures) (ap (λ k. k + r.meters - down) c.from-2.ensures)
    c.saturating_sub.ensures c.saturating_sub-2.ensures c.outside-rest.ensures.outside c.outside.ensures.outside
