use Rattle.std.proofs.Common.{◌≡◌, ap, ◌∙◌, arith}
use Rattle.group_plan.specs.Plans.{PlanView, size}
use Rattle.billing_read.specs.Changes.{after_change}
use Rattle.billing_read.proofs.CopyLemmas.{put_more, round_more, none_outside, out_meter}
use Rattle.billing_read.proofs.changes.Change.put_round.Goals as goal

pub loop-meter-preserved : goal.loop-meter-preserved
loop-meter-preserved c =
    let at = c.args.self.now in
    let before = c.loop-meter.invariant in
    record {
      plan = c.put.ensures.plan ∙ before.plan;
      before = put_more (after_change at) c.loop-meter.other c.put.new.self c.args.group c.args.round c.loop-meter.meter c.reading-reading.result before.before c.put.ensures c.reading-reading.ensures.reading;
    }

pub returns-clause-after : goal.returns-clause-after
returns-clause-after c =
    let at = c.args.self.now in
    let x = at.readings.now in
    let y = c.loop-meter.other in
    let same : y.plan ≡ x.plan = c.loop-meter.invariant.plan ∙ c.requires.plan in
    let end = c.meters-meter-end.ensures.meters ∙ ap (λ (p : PlanView). size p.groups c.args.group) c.plan.ensures.plan in
    round_more (after_change at) y c.args.group c.args.round c.loop-meter.meter c.loop-meter.invariant.before
    (λ i le. none_outside x y at.place.group at.place.round at.place.meter at.partner c.plan-readings.ensures.table c.plan-whole.ensures.table same c.args.group c.args.round i
    (out_meter x.plan c.args.group c.args.round i (omega (arith, end, le, c.loop-meter-test.false))))
