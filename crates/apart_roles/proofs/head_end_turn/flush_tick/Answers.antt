use Rattle.std.proofs.Common.{◌≡◌, rules, sym, subst}
use Rattle.std.specs.Prelude.{Err, Result}
use Rattle.apart_roles.specs.declared.outcome.RoleError.{RoleError}
use Rattle.apart_roles.specs.HeadEndTurns.{Flushes, logged_tick}
use Rattle.apart_roles.proofs.HeadEndTurnLemmas.{not_flushed, then_flushed}
use Rattle.apart_roles.proofs.head_end_turn.flush_tick.Goals as goal

pub returns-in_err-pass_tick-clause-flushes : goal.returns-in_err-pass_tick-clause-flushes
returns-in_err-pass_tick-clause-flushes g c plan journal after =
    let error = c.in_err-pass_tick.field-0.0 in
    let is : c.from_residual.result ≡ Err error = search rules in
    let logged = logged_tick plan journal c.args.tick in
    subst (λ (r : Result (Unit {0}) RoleError). Flushes plan journal logged (g.W.Wire.view c.args.wire.now) (g.W.Wire.view c.pass_tick.new.wire) r c.pass_tick.new.head) (sym is)
    (not_flushed logged (g.W.Wire.view c.args.wire.now) (g.W.Wire.view c.pass_tick.new.wire) error (c.in_err-pass_tick.ensures.logs plan journal after))

pub returns-clause-flushes : goal.returns-clause-flushes
returns-clause-flushes g c plan journal after =
    then_flushed plan journal (logged_tick plan journal c.args.tick) (g.W.Wire.view c.args.wire.now) (g.W.Wire.view c.pass_tick.new.wire) (g.W.Wire.view c.flush.new.wire) c.flush.result c.pass_tick.new.head
    (c.in_ok-pass_tick.ensures.logs plan journal after) c.flush.ensures
