use Rattle.std.proofs.Common.{◌≡◌, rules, inl, inr}
use Rattle.std.specs.Prelude.{Err}
use Rattle.apart_roles.proofs.RunLemmas.{line_answered, line_stopped, long_answered, long_stopped, no_line}
use Rattle.apart_roles.proofs.meter_run.take_turn.Goals as goal

pub returns-in_err-answer_line-in-Ok-Line-clause-turn : goal.returns-in_err-answer_line-in-Ok-Line-clause-turn
returns-in_err-answer_line-in-Ok-Line-clause-turn g c journal after =
    let error = c.in_err-answer_line-in-Ok-Line.field-0.0 in
    let is : c.from_residual.result ≡ Err error = search rules in
    line_stopped c.args.meter.now c.answer_line.new.meter journal c.in-Ok-Line.field-0 c.hear.new.line.items c.deref.result.now (g.W.Wire.view c.args.wire.now) (g.W.Wire.view c.hear.new.self)
    (g.W.Wire.view c.answer_line.new.wire) error c.from_residual.result is c.in-Ok-Line.field-0-is c.in-Ok-Line.ensures c.deref.ensures.value (c.in_err-answer_line-in-Ok-Line.ensures.answers journal after)

pub returns-in_err-say-in-Ok-TooLong-clause-turn : goal.returns-in_err-say-in-Ok-TooLong-clause-turn
returns-in_err-say-in-Ok-TooLong-clause-turn g c journal after =
    let error = c.in_err-say-in-Ok-TooLong.field-0.0 in
    let is : c.from_residual-in_err-say-in-Ok-TooLong.result ≡ Err error = search rules in
    long_stopped c.args.meter.now c.args.meter.now journal c.in-Ok-TooLong.field-0 c.hear.new.line.items (g.W.Wire.view c.args.wire.now) (g.W.Wire.view c.hear.new.self) (g.W.Wire.view c.say.new.wire) error
    c.from_residual-in_err-say-in-Ok-TooLong.result is c.in-Ok-TooLong.field-0-is c.in-Ok-TooLong.ensures c.in_err-say-in-Ok-TooLong.ensures

pub returns-in-Ok-Rest-clause-turn : goal.returns-in-Ok-Rest-clause-turn
returns-in-Ok-Rest-clause-turn g c journal after =
    no_line c.args.meter.now journal c.in-Ok-Rest.field-0 c.hear.new.line.items (g.W.Wire.view c.args.wire.now) (g.W.Wire.view c.hear.new.self) after (inl c.in-Ok-Rest.field-0-is) c.in-Ok-Rest.ensures

pub returns-in-Ok-End-clause-turn : goal.returns-in-Ok-End-clause-turn
returns-in-Ok-End-clause-turn g c journal after =
    no_line c.args.meter.now journal c.in-Ok-End.field-0 c.hear.new.line.items (g.W.Wire.view c.args.wire.now) (g.W.Wire.view c.hear.new.self) after (inr c.in-Ok-End.field-0-is) c.in-Ok-End.ensures

pub returns-in_ok-answer_line-in-Ok-Line-clause-turn : goal.returns-in_ok-answer_line-in-Ok-Line-clause-turn
returns-in_ok-answer_line-in-Ok-Line-clause-turn g c journal after =
    line_answered c.args.meter.now c.answer_line.new.meter journal c.in-Ok-Line.field-0 c.hear.new.line.items c.deref.result.now (g.W.Wire.view c.args.wire.now) (g.W.Wire.view c.hear.new.self)
    (g.W.Wire.view c.answer_line.new.wire) c.in-Ok-Line.field-0-is c.in-Ok-Line.ensures c.deref.ensures.value (c.in_ok-answer_line-in-Ok-Line.ensures.answers journal after)

pub returns-in_ok-say-in-Ok-TooLong-clause-turn : goal.returns-in_ok-say-in-Ok-TooLong-clause-turn
returns-in_ok-say-in-Ok-TooLong-clause-turn g c journal after =
    long_answered c.args.meter.now journal c.in-Ok-TooLong.field-0 c.hear.new.line.items (g.W.Wire.view c.args.wire.now) (g.W.Wire.view c.hear.new.self) (g.W.Wire.view c.say.new.wire) after
    c.in-Ok-TooLong.field-0-is c.in-Ok-TooLong.ensures c.in_ok-say-in-Ok-TooLong.ensures
