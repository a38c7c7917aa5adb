use Rattle.std.proofs.Common.{refl}
use Rattle.meter_apart.specs.Meter.{meter_masks, meter_part}
use Rattle.meter_apart.specs.Replies.{to_reading}
use Rattle.apart_lines.specs.declared.heard.ToMeter.TheVariants as hears
use Rattle.apart_roles.specs.MeterTurns.{by_reading}
use Rattle.apart_roles.proofs.TurnLemmas.{answered}
use Rattle.apart_roles.proofs.meter_turn.turn_reading.Goals as goal

pub returns-clause-answers : goal.returns-clause-answers
returns-clause-answers g c journal after =
    let old = c.args.meter.now in
    let due = by_reading (to_reading (meter_part old) (meter_masks old) journal c.args.round c.args.reading) in
    answered old c.answer_reading.new.meter journal (hears.Reading c.args.round c.args.reading) due c.in_ok-says.says (g.W.Wire.view c.args.wire.now) (g.W.Wire.view c.answer_reading.new.wire) (g.W.Wire.view c.say-2.new.wire) c.say-2.result
    refl (c.in_ok-says.ensures.prepares journal after) c.say-2.ensures
