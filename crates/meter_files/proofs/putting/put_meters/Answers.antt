use Rattle.std.proofs.Common.{◌<◌, ◌∙◌, ap, arith}
use Rattle.group_plan.specs.Plans.{PlanView, size}
use Rattle.pair_keys.specs.Keys.{table_of}
use Rattle.meter_files.proofs.PutLemmas.{none_put, put_more, put_stops}
use Rattle.meter_files.proofs.putting.put_meters.Goals as goal

pub loop-meter-init : goal.loop-meter-init
loop-meter-init g c = record { put = none_put (g.D.Desk.view c.args.desk.now) (table_of c.args.keys.now) c.args.group c.args.prefix.now; later = omega arith }

pub loop-meter-preserved : goal.loop-meter-preserved
loop-meter-preserved g c =
    let before = c.loop-meter.invariant in
    let sooner = before.later in
    let later = c.in_default.ensures.later in
    record { put = put_more _ _ _ _ _ _ _ before.put c.in_default.ensures.puts; later = omega (arith, sooner, later) }

pub returns-in-Err-clause-puts : goal.returns-in-Err-clause-puts
returns-in-Err-clause-puts g c =
    let all = c.meters-meter-end.ensures.meters ∙ ap (λ (p : PlanView). size p.groups c.args.group) c.plan.ensures in
    let lt : c.loop-meter.meter < size ((table_of c.args.keys.now).plan).groups c.args.group = omega (arith, c.loop-meter-test.true, all) in
    put_stops (table_of c.args.keys.now) c.args.group _ _ _ _ _ _ _ lt c.loop-meter.invariant.put c.in-Err.ensures.puts
