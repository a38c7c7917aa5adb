use Rattle.std.proofs.Common.{◌∙◌, length}
use Rattle.blind_core.specs.Rows.{is_higher}
use Rattle.blind_core.proofs.ShareLemmas.{higher-are_ends, between-higher}
use Rattle.blind_core.proofs.WordLoops.{row_begins}
use Rattle.blind_core.proofs.group.take_row.Goals as goal

pub pairs-row-requires-clause-others : goal.pairs-row-requires-clause-others
pairs-row-requires-clause-others g c =
    higher-are_ends (g.M.Masks.plan c.args.masks.now) c.args.group c.args.round (length c.args.sums.now) c.args.low c.args.higher.now c.requires.higher

pub loop-high-init : goal.loop-high-init
loop-high-init g c =
    let plan = g.M.Masks.plan c.args.masks.now in
    let pair = (g.M.Masks.table c.args.masks.now).pair c.args.group c.args.round in
    row_begins (pair c.args.low) (is_higher plan c.args.group c.args.round (length c.args.sums.now) c.args.low) c.args.higher.now c.args.sums.now c.into_iter-high-iterator.result c.as_slice-words.result.now
    (c.into_iter-high-iterator.ensures.into_iter_gives ∙ c.members-high-items.ensures.members) c.requires.higher
    (c.as_slice-words.ensures.value ∙ c.pairs-row.ensures ∙ between-higher pair plan c.args.group c.args.round (length c.args.sums.now) c.args.low c.args.higher.now c.requires.higher)
