use Rattle.std.proofs.Common.{◌≡◌, ◌-◌, ◌^◌, rules, refl, sym, subst, arith}
use Rattle.std.specs.Prelude.{Err, Result}
use Rattle.apart_roles.specs.declared.head_end_run.Pause.{Pause}
use Rattle.apart_roles.specs.declared.outcome.RoleError.{RoleError}
use Rattle.apart_roles.specs.HeadEndRuns.{Hears, run_journal}
use Rattle.apart_roles.proofs.HeadEndRunLemmas.{one_more, run_full, run_over, run_reported, run_stopped, taken_somewhere}
use Rattle.apart_roles.proofs.head_end_run.hear_lines.Goals as goal

pub returns-in_err-take_turn : goal.returns-in_err-take_turn
returns-in_err-take_turn g c plan journal after =
    let has = c.loop-turn.invariant.1 plan journal after in
    let error = c.in_err-take_turn.field-0.0 in
    let is : c.from_residual.result ≡ Err error = search rules in
    subst (λ (r : Result Pause RoleError). Hears plan journal (g.W.Wire.view c.args.wire.now) (g.W.Wire.view c.take_turn.new.wire) r c.take_turn.new.head) (sym is)
    (run_stopped plan journal error (g.W.Wire.view c.args.wire.now) c.loop-turn._turn (g.W.Wire.view c.loop-turn.wire) (g.W.Wire.view c.take_turn.new.wire) c.loop-turn.head has
    (c.in_err-take_turn.ensures plan (run_journal plan journal has.lines) has.after))

pub returns-in-Report : goal.returns-in-Report
returns-in-Report g c plan journal after =
    let has = c.loop-turn.invariant.1 plan journal after in
    run_reported plan journal (g.W.Wire.view c.args.wire.now) c.loop-turn._turn (g.W.Wire.view c.loop-turn.wire) (g.W.Wire.view c.take_turn.new.wire) c.in_ok-take_turn.field-0 c.loop-turn.head c.take_turn.new.head has
    (c.in_ok-take_turn.ensures plan (run_journal plan journal has.lines) has.after) c.in-Report.is

pub returns-in-Over : goal.returns-in-Over
returns-in-Over g c plan journal after =
    let has = c.loop-turn.invariant.1 plan journal after in
    run_over plan journal (g.W.Wire.view c.args.wire.now) c.loop-turn._turn (g.W.Wire.view c.loop-turn.wire) (g.W.Wire.view c.take_turn.new.wire) c.in_ok-take_turn.field-0 c.loop-turn.head c.take_turn.new.head has
    (c.in_ok-take_turn.ensures plan (run_journal plan journal has.lines) has.after) c.in-Over.is

pub loop-turn-preserved : goal.loop-turn-preserved
loop-turn-preserved g c =
    let somewhere = c.loop-turn.invariant.0 in
    let own = c.loop-turn.head.plan in (
      taken_somewhere own somewhere.journal (g.W.Wire.view c.loop-turn.wire) (g.W.Wire.view c.take_turn.new.wire) c.in_ok-take_turn.field-0 c.take_turn.new.head
          (c.in_ok-take_turn.ensures own somewhere.journal (record { plan_is = refl; after = somewhere.after })),
      λ plan journal after.
          let has = c.loop-turn.invariant.1 plan journal after in
          one_more plan journal (g.W.Wire.view c.args.wire.now) c.loop-turn._turn (g.W.Wire.view c.loop-turn.wire) (g.W.Wire.view c.take_turn.new.wire) c.in_ok-take_turn.field-0 c.loop-turn.head c.take_turn.new.head has
          (c.in_ok-take_turn.ensures plan (run_journal plan journal has.lines) has.after) c.in-More.is,
    )

pub returns : goal.returns
returns g c plan journal after =
    let has = c.loop-turn.invariant.1 plan journal after in
    let off = c.loop-turn-test.false in
    let end = c.loop-turn.auto._turn-end in
    let full : c.loop-turn._turn ≡ 2 ^ 64 - 1 = omega (arith, off, end) in
    run_full plan journal (g.W.Wire.view c.args.wire.now) c.loop-turn._turn (g.W.Wire.view c.loop-turn.wire) c.loop-turn.head has full
