use Rattle.std.proofs.Common.{◌≡◌, List, ℕ, true, sym, subst}
use Rattle.std.specs.List.{list_all}
use Rattle.mask_stream.specs.Ends.{is_other}
use Rattle.sparse_masks.specs.Neighbours.{are_neighbours}
use Rattle.sparse_masks.proofs.RowLemmas.{ends-filter}
use Rattle.sparse_masks.proofs.ring.RingMasksMasks.pairs.Goals as goal

pub pairs-row-requires-clause-others : goal.pairs-row-requires-clause-others
pairs-row-requires-clause-others g c =
    let end = is_other (g.M.Masks.plan c.args.self.now.masks.now) c.args.group c.args.round c.args.meter in
    subst (λ (l : List ℕ). list_all end l ≡ true) (sym c.neighbours_among-neighbours.ensures.neighbours)
    (ends-filter end (are_neighbours c.args.self.now.width c.meters.result c.args.meter) c.args.others.now c.requires.others)
