use Rattle.std.proofs.Common.{◌≡◌, ◌≤◌, ◌∙◌, length, ap, subst}
use Rattle.std.proofs.lemmas.List.{take_all}
use Rattle.twin_worlds.specs.MovedRows.{rows_of}
use Rattle.twin_worlds.proofs.MovedLemmas.{are-moved_by}
use Rattle.twin_worlds.proofs.moving.moved_rows.Goals as goal

pub returns-clause-moved : goal.returns-clause-moved
returns-clause-moved g c =
    let m = g.M.Masks.table c.args.masks.now in
    let past : length c.args.offsets.now ≤ c.loop-offset.offset-index = subst (λ l. length l ≤ c.loop-offset.offset-index) c.moved-offset-items.ensures.list c.loop-offset-test.false in
    let rows_are : c.of.result ≡ rows_of m c.args.offsets.now
    = c.of.ensures ∙ c.loop-offset.invariant ∙ ap (rows_of m) (take_all c.loop-offset.offset-index c.args.offsets.now past) in
    are-moved_by (g.M.Masks.plan c.args.masks.now) m c.args.offsets.now c.of.result rows_are
