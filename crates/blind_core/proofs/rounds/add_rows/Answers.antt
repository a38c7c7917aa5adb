use Rattle.std.proofs.Common.{ℕ, ◌+◌, ◌<◌, IsTrue, nat_lt, length, sym, subst, ◌∙◌, arith}
use Rattle.std.specs.List.{list_all}
use Rattle.blind_core.proofs.RowLoop.{rows_begin}
use Rattle.blind_core.proofs.ColumnLemmas.{length-column, columns_end, next_within, columns_next, rows_done}
use Rattle.blind_core.proofs.rounds.add_rows.Goals as goal

pub loop-low-init : goal.loop-low-init
loop-low-init g c j h =
    rows_begin _ _ _ _ _ _ _ (c.into_iter-low-iterator.ensures.into_iter_gives ∙ c.members-low-items.ensures.members) c.members-low-items.ensures.set c.requires.places
    (subst (λ (n : ℕ). IsTrue (list_all (λ k. nat_lt k n) c.args.members.now)) (sym (length-column 0 j c.args.sums.now)) c.requires.within)

pub take_row-row-requires-clause-higher : goal.take_row-row-requires-clause-higher
take_row-row-requires-clause-higher g c =
    columns_end (g.M.Masks.plan c.args.masks.now) c.args.group (c.args.first + 7) (λ j. (g.M.Masks.table c.args.masks.now).pair c.args.group (c.args.first + j)) c.args.members.now _ c.loop-low.higher c.args.sums.now c.loop-low.sums
    c.in-Some.low _ c.without-higher.result c.loop-low.invariant c.in-Some.ensures.steps c.without-higher.ensures

pub bounds-sums-low : goal.bounds-sums-low
bounds-sums-low g c =
    omega (arith, c.take_row-row.auto.sums, next_within (g.M.Masks.plan c.args.masks.now) c.args.group (c.args.first + 7) (λ j. (g.M.Masks.table c.args.masks.now).pair c.args.group (c.args.first + j)) c.args.members.now c.loop-low.low-iterator c.loop-low.higher c.args.sums.now c.loop-low.sums c.in-Some.low c.next.new.self c.loop-low.invariant c.in-Some.ensures.steps)

pub loop-low-preserved : goal.loop-low-preserved
loop-low-preserved g c =
    let inside : c.in-Some.low < length c.take_row-row.new.sums =
    omega (arith, c.take_row-row.auto.sums, next_within (g.M.Masks.plan c.args.masks.now) c.args.group (c.args.first + 7) (λ j. (g.M.Masks.table c.args.masks.now).pair c.args.group (c.args.first + j)) c.args.members.now c.loop-low.low-iterator c.loop-low.higher c.args.sums.now c.loop-low.sums c.in-Some.low c.next.new.self c.loop-low.invariant c.in-Some.ensures.steps) in
    columns_next (g.M.Masks.plan c.args.masks.now) c.args.group (c.args.first + 7) (λ j. (g.M.Masks.table c.args.masks.now).pair c.args.group (c.args.first + j)) c.args.members.now _ c.loop-low.higher c.args.sums.now c.loop-low.sums
    c.in-Some.low _ c.without-higher.result c.take_row-row.new.sums c.take_row-row.result _ c.loop-low.invariant c.in-Some.ensures.steps c.without-higher.ensures inside c.take_row-row.ensures.sums c.take_row-row.ensures.row c.add.ensures

pub returns-clause-rows : goal.returns-clause-rows
returns-clause-rows g c j h = rows_done _ _ _ _ _ _ _ _ _ (c.loop-low.invariant j h) c.in-None.ensures.steps.0
