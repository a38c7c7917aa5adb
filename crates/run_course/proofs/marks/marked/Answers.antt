use Rattle.std.proofs.Common.{ℕ, Bool, sym, ap, ◌∙◌}
use Rattle.group_plan.specs.Tables.{reading}
use Rattle.event_schedule.proofs.RoundMembers.{one_more, one_less}
use Rattle.run_course.specs.Marks.{is_noted}
use Rattle.run_course.proofs.marks.marked.Goals.{then-is_noted, else-is_noted}
use Rattle.run_course.proofs.marks.marked.Goals as goal

pub loop-meter-preserved : goal.loop-meter-preserved
loop-meter-preserved c =
    let p : ℕ → Bool = λ i. is_noted c.args.from (reading c.args.table.now.table c.args.group c.args.round i) in
    let test = ap (is_noted c.args.from) (sym c.get.ensures.reading) ∙ sym c.is_noted.ensures in
    elim c.if-is_noted.branch [
      | then-is_noted w ↦ w.meters-is ∙ w.with-meters.ensures ∙ one_more p c.loop-meter.meter c.loop-meter.meters c.loop-meter.invariant (test ∙ w.if-is_noted.true)
      | else-is_noted w ↦ w.meters-is ∙ one_less p c.loop-meter.meter c.loop-meter.meters c.loop-meter.invariant (test ∙ w.if-is_noted.false)
    ]
