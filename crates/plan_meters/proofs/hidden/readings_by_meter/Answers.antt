use Rattle.std.proofs.Common.{◌≡◌, ◌+◌, ◌∙◌, length, ap, arith}
use Rattle.group_plan.specs.Plans.{size}
use Rattle.plan_meters.proofs.HiddenLemmas.{column-is_row}
use Rattle.plan_meters.proofs.hidden.readings_by_meter.Goals as goal

pub returns : goal.returns
returns c j h =
    let readings = c.args.readings.now in
    let n : c.meters-meter-end.result ≡ size readings.plan.groups c.args.group = c.meters-meter-end.ensures.meters ∙ ap (λ p. size p.groups c.args.group) c.plan.ensures.plan in
    let long : length c.loop-meter.rows.items ≡ size readings.plan.groups c.args.group = omega (arith, c.loop-meter.invariant.long, c.loop-meter-test.false, c.loop-meter.auto.meter-end, n) in
    column-is_row readings c.args.group (c.args.first + j) c.loop-meter.rows.items j long (λ i within. c.loop-meter.invariant.each i j (omega (arith, within, c.loop-meter.invariant.long)) h)
