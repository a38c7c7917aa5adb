use Rattle.std.proofs.Common.{◌++◌, ◌∙◌, ap, arith}
use Rattle.group_plan.specs.Plans.{PlanView}
use Rattle.plan_files.specs.PlainRows.{row_text}
use Rattle.plan_files.specs.Spelling.{readings_row}
use Rattle.plan_files.proofs.WrittenRows.{written_more, rounds_written}
use Rattle.plan_files.proofs.writing.put_group.Goals as goal

pub loop-round-preserved : goal.loop-round-preserved
loop-round-preserved c =
    let x = c.args.readings.now in
    written_more (λ r. row_text (readings_row x.plan x.table c.args.group r)) c.loop-round.round c.args.out.now.items c.loop-round.out.items c.put_row.new.out.items
    c.loop-round.invariant c.in_ok-put_row.ensures

pub returns : goal.returns
returns c =
    let x = c.args.readings.now in
    let end = c.rounds-round-end.ensures.rounds ∙ ap (λ (p : PlanView). p.rounds) c.plan.ensures.plan in
    c.loop-round.invariant ∙ ap (λ l. c.args.out.now.items ++ l) (rounds_written x c.args.group c.loop-round.round (omega (arith, end, c.loop-round-test.false, c.loop-round.auto.round-end)))
