use Rattle.std.proofs.Common.{sym, subst}
use Rattle.meter_apart.specs.declared.answers.Noted.TheVariants.{Read}
use Rattle.meter_apart.specs.Meter.{meter_masks, meter_part}
use Rattle.meter_apart.specs.Replies.{to_reading}
use Rattle.apart_roles.specs.MeterTurns.{IsPrepared, by_reading, noted_line, with_noted}
use Rattle.apart_roles.proofs.TurnLemmas.{reading_prepared}
use Rattle.apart_roles.proofs.meter_turn.answer_reading.Goals as goal

pub returns-clause-prepares : goal.returns-clause-prepares
returns-clause-prepares g c journal after =
    let old = c.args.meter.now in
    let line = noted_line (meter_part old) journal (Read c.args.round c.args.reading) in
    let due = by_reading (to_reading (meter_part old) (meter_masks old) journal c.args.round c.args.reading) in
    let noted = c.in_ok-keep.ensures.keeps journal after in
    subst (λ says. IsPrepared line due journal (g.W.Wire.view c.args.wire.now) (g.W.Wire.view c.keep.new.wire) says c.read.new.self) (sym c.by_reading.ensures)
    (reading_prepared old c.keep.new.meter c.read.new.self journal c.args.round c.args.reading c.read.result (g.W.Wire.view c.args.wire.now) (g.W.Wire.view c.keep.new.wire) c.keep.ensures.keys noted
    (c.read.ensures.says (with_noted journal line) noted.after))
