use Rattle.std.proofs.Common.{◌≡◌, rules}
use Rattle.std.specs.Prelude.{Err}
use Rattle.apart_roles.proofs.HeadEndTurnLemmas.{frame_answered, frame_stops}
use Rattle.apart_roles.proofs.head_end_turn.answer_frame.Goals as goal

pub returns-in_err-reply : goal.returns-in_err-reply
returns-in_err-reply g c plan journal after =
    let error = c.in_err-reply.field-0.0 in
    let is : c.from_residual.result ≡ Err error = search rules in
    frame_stops plan journal c.args.frame.now (g.W.Wire.view c.args.wire.now) (g.W.Wire.view c.take_frame.new.wire) error c.from_residual.result c.take_frame.new.head is
    (c.in_err-reply.ensures.logs plan journal after)

pub returns : goal.returns
returns g c plan journal after =
    frame_answered plan journal c.args.frame.now c.in_ok-reply.reply (g.W.Wire.view c.args.wire.now) (g.W.Wire.view c.take_frame.new.wire) (g.W.Wire.view c.tell.new.wire) c.tell.result c.plan.result.now
    c.take_frame.new.head (c.in_ok-reply.ensures.reply plan journal after) (c.in_ok-reply.ensures.logs plan journal after) (search rules) c.tell.ensures
