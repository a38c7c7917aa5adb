use Rattle.std.proofs.Common.{◌≡◌, rules, sym, subst}
use Rattle.std.specs.Prelude.{Result, Err}
use Rattle.meter_apart.specs.Meter.{meter_part}
use Rattle.apart_roles.specs.declared.outcome.RoleError.{RoleError}
use Rattle.apart_roles.specs.MeterRuns.{Runs, run_journal}
use Rattle.apart_roles.proofs.RunLemmas.{one_more, run_ended, run_stopped}
use Rattle.apart_roles.proofs.meter_run.run_meter.Goals as goal

pub returns-in_err-take_turn : goal.returns-in_err-take_turn
returns-in_err-take_turn g c journal after =
    let old = c.args.meter.now in
    let has = c.loop-turn.invariant journal after in
    let error = c.in_err-take_turn.field-0.0 in
    let is : c.from_residual.result ≡ Err error = search rules in
    subst (λ (r : Result (Unit {0}) RoleError). Runs old journal (g.W.Wire.view c.args.wire.now) (g.W.Wire.view c.take_turn.new.wire) r c.take_turn.new.meter) (sym is)
    (run_stopped old c.loop-turn.meter journal error (g.W.Wire.view c.args.wire.now) c.loop-turn._turn (g.W.Wire.view c.loop-turn.wire) (g.W.Wire.view c.take_turn.new.wire) has
    (c.in_err-take_turn.ensures.turn (run_journal (meter_part old) journal has.lines) has.after))

pub returns-then-not-branch : goal.returns-then-not-branch
returns-then-not-branch g c journal after =
    let old = c.args.meter.now in
    let has = c.loop-turn.invariant journal after in
    run_ended old c.loop-turn.meter c.take_turn.new.meter journal (g.W.Wire.view c.args.wire.now) c.loop-turn._turn (g.W.Wire.view c.loop-turn.wire) (g.W.Wire.view c.take_turn.new.wire) c.in_ok-take_turn.field-0 has
    (c.in_ok-take_turn.ensures.turn (run_journal (meter_part old) journal has.lines) has.after) c.if-not-branch.true

pub loop-turn-preserved : goal.loop-turn-preserved
loop-turn-preserved g c journal after =
    let old = c.args.meter.now in
    let has = c.loop-turn.invariant journal after in
    one_more old c.loop-turn.meter c.take_turn.new.meter journal (g.W.Wire.view c.args.wire.now) c.loop-turn._turn (g.W.Wire.view c.loop-turn.wire) (g.W.Wire.view c.take_turn.new.wire) c.in_ok-take_turn.field-0 has
    c.take_turn.ensures.keys (c.in_ok-take_turn.ensures.turn (run_journal (meter_part old) journal has.lines) has.after) c.if-not-branch.false
