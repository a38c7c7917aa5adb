use Rattle.std.proofs.Common.{◌≡◌, rules, refl, sym, subst}
use Rattle.std.specs.Prelude.{Ok, Err, Result}
use Rattle.meter_apart.specs.Meter.{meter_masks, meter_part}
use Rattle.meter_apart.specs.Replies.{to_frame}
use Rattle.apart_lines.specs.declared.heard.ToMeter.TheVariants as hears
use Rattle.apart_roles.specs.declared.outcome.RoleError.{RoleError}
use Rattle.apart_roles.specs.MeterTurns.{Answers, by_frame}
use Rattle.apart_roles.proofs.TurnLemmas.{answered, unprepared}
use Rattle.apart_roles.proofs.meter_turn.turn_frame.Goals as goal

pub returns-in_err-says-clause-answers : goal.returns-in_err-says-clause-answers
returns-in_err-says-clause-answers g c journal after =
    let old = c.args.meter.now in
    let error = c.in_err-says.field-0.0 in
    let is : c.from_residual.result ≡ Err error = search rules in
    subst (λ (r : Result (Unit {0}) RoleError). Answers old journal (hears.Frame (Ok c.args.frame.now)) (g.W.Wire.view c.args.wire.now) (g.W.Wire.view c.answer_frame.new.wire) r c.answer_frame.new.meter) (sym is)
    (unprepared old c.answer_frame.new.meter journal (hears.Frame (Ok c.args.frame.now)) (g.W.Wire.view c.args.wire.now) (g.W.Wire.view c.answer_frame.new.wire) error
    (c.in_err-says.ensures.prepares journal after))

pub returns-clause-answers : goal.returns-clause-answers
returns-clause-answers g c journal after =
    let old = c.args.meter.now in
    let due = by_frame (to_frame (meter_part old) (meter_masks old) journal c.args.frame.now) in
    answered old c.answer_frame.new.meter journal (hears.Frame (Ok c.args.frame.now)) due c.in_ok-says.says (g.W.Wire.view c.args.wire.now) (g.W.Wire.view c.answer_frame.new.wire) (g.W.Wire.view c.say.new.wire) c.say.result
    refl (c.in_ok-says.ensures.prepares journal after) c.say.ensures
