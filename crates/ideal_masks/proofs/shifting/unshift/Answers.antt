use Rattle.std.proofs.Common.{◌∙◌, ap}
use Rattle.ideal_masks.specs.ListTables.{shift_table}
use Rattle.ideal_masks.specs.Moves.{listed}
use Rattle.ideal_masks.proofs.ShiftLemmas.{less, less-none, less-more, small_at, moved-none, moved-next, moved-all, moved-unshift}
use Rattle.ideal_masks.proofs.TableLemmas.{shift_table-unshift}
use Rattle.ideal_masks.proofs.shifting.unshift.Goals as goal

pub loop-offset-init : goal.loop-offset-init
loop-offset-init c = moved-none less less-none c.args.table.now c.plan-plan.ensures.table

pub loop-offset-preserved : goal.loop-offset-preserved
loop-offset-preserved c =
    moved-next less c.args.offsets.now c.moved-offset-items.result.now c.loop-offset.offset-index c.offset-item.result c.signed.result c.args.table.now c.loop-offset.table c.move_word.new.self
    c.moved-offset-items.ensures.list c.offset-item.is c.loop-offset-test.true
    (less-more c.offset-item.result c.signed.result c.signed.ensures
    (small_at c.args.offsets.now c.moved-offset-items.result.now c.loop-offset.offset-index c.offset-item.result c.moved-offset-items.ensures.order c.moved-offset-items.ensures.list c.offset-item.is c.loop-offset-test.true))
    c.loop-offset.invariant c.move_word.ensures.moves c.move_word.ensures.table

pub returns-clause-words : goal.returns-clause-words
returns-clause-words c =
    moved-unshift c.args.offsets.now c.args.table.now c.loop-offset.table
    (moved-all less c.args.offsets.now c.moved-offset-items.result.now c.loop-offset.offset-index c.args.table.now c.loop-offset.table c.moved-offset-items.ensures.list c.loop-offset-test.false c.loop-offset.invariant)

pub returns-clause-undone : goal.returns-clause-undone
returns-clause-undone c =
    ap (shift_table c.args.table.now.plan (listed c.args.offsets.now)) (moved-unshift c.args.offsets.now c.args.table.now c.loop-offset.table
    (moved-all less c.args.offsets.now c.moved-offset-items.result.now c.loop-offset.offset-index c.args.table.now c.loop-offset.table c.moved-offset-items.ensures.list c.loop-offset-test.false c.loop-offset.invariant))
    ∙ shift_table-unshift c.args.table.now.plan (listed c.args.offsets.now) c.args.table.now.words c.plan-plan.ensures.table
