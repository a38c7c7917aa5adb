use Rattle.std.proofs.Common.{refl, arith}
use Rattle.meter_files.proofs.PutLemmas.{none_checked, check_more, check_stops}
use Rattle.meter_files.proofs.putting.check_names.Goals as goal

pub loop-meter-init : goal.loop-meter-init
loop-meter-init g c = record { free = none_checked (g.D.Desk.view c.args.desk.now) c.args.prefix.now; same = refl; later = omega arith }

pub loop-meter-preserved : goal.loop-meter-preserved
loop-meter-preserved g c =
    let before = c.loop-meter.invariant in
    let more = check_more _ _ _ _ _ before.free before.same c.in_default.ensures.checks in
    let sooner = before.later in
    let later = c.in_default.ensures.later in
    record { free = more.0; same = more.1; later = omega (arith, sooner, later) }

pub returns-in-Err-clause-checks : goal.returns-in-Err-clause-checks
returns-in-Err-clause-checks g c =
    check_stops _ _ _ _ _ _ _ (omega (arith, c.loop-meter-test.true)) c.loop-meter.invariant.free c.loop-meter.invariant.same c.in-Err.ensures.checks
