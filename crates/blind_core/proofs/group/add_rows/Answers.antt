use Rattle.std.proofs.Common.{◌∙◌}
use Rattle.blind_core.proofs.RowLoop.{rows_begin, rows_ends, rows_next}
use Rattle.blind_core.proofs.group.add_rows.Goals as goal

pub loop-low-init : goal.loop-low-init
loop-low-init g c =
    rows_begin _ _ _ _ _ _ _ (c.into_iter-low-iterator.ensures.into_iter_gives ∙ c.members-low-items.ensures.members) c.members-low-items.ensures.set c.requires.places c.requires.within

pub take_row-row-requires-clause-higher : goal.take_row-row-requires-clause-higher
take_row-row-requires-clause-higher g c =
    rows_ends _ _ _ _ _ _ _ _ _ c.in-Some.low c.next.new.self c.without-higher.result c.loop-low.invariant c.in-Some.ensures.steps c.without-higher.ensures

pub loop-low-preserved : goal.loop-low-preserved
loop-low-preserved g c =
    rows_next _ _ _ _ _ _ _ _ _ c.in-Some.low c.next.new.self c.without-higher.result _ _ c.loop-low.invariant c.in-Some.ensures.steps c.without-higher.ensures c.take_row-row.ensures.sums c.take_row-row.ensures.row
