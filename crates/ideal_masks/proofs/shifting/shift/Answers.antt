use Rattle.std.proofs.Common.{◌∙◌, ap}
use Rattle.ideal_masks.specs.ListTables.{unshift_table}
use Rattle.ideal_masks.specs.Moves.{listed}
use Rattle.ideal_masks.proofs.ShiftLemmas.{plus, plus-none, plus-more, moved-none, moved-next, moved-all, moved-shift}
use Rattle.ideal_masks.proofs.TableLemmas.{unshift_table-shift}
use Rattle.ideal_masks.proofs.shifting.shift.Goals as goal

pub loop-offset-init : goal.loop-offset-init
loop-offset-init c = moved-none plus plus-none c.args.table.now c.plan-plan.ensures.table

pub loop-offset-preserved : goal.loop-offset-preserved
loop-offset-preserved c =
    moved-next plus c.args.offsets.now c.moved-offset-items.result.now c.loop-offset.offset-index c.offset-item.result c.offset-item.result.by c.args.table.now c.loop-offset.table c.move_word.new.self
    c.moved-offset-items.ensures.list c.offset-item.is c.loop-offset-test.true (plus-more c.offset-item.result) c.loop-offset.invariant c.move_word.ensures.moves c.move_word.ensures.table

pub returns-clause-words : goal.returns-clause-words
returns-clause-words c =
    moved-shift c.args.offsets.now c.args.table.now c.loop-offset.table
    (moved-all plus c.args.offsets.now c.moved-offset-items.result.now c.loop-offset.offset-index c.args.table.now c.loop-offset.table c.moved-offset-items.ensures.list c.loop-offset-test.false c.loop-offset.invariant)

pub returns-clause-undone : goal.returns-clause-undone
returns-clause-undone c =
    ap (unshift_table c.args.table.now.plan (listed c.args.offsets.now)) (moved-shift c.args.offsets.now c.args.table.now c.loop-offset.table
    (moved-all plus c.args.offsets.now c.moved-offset-items.result.now c.loop-offset.offset-index c.args.table.now c.loop-offset.table c.moved-offset-items.ensures.list c.loop-offset-test.false c.loop-offset.invariant))
    ∙ unshift_table-shift c.args.table.now.plan (listed c.args.offsets.now) c.args.table.now.words c.plan-plan.ensures.table
