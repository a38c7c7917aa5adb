use Rattle.std.proofs.Common.{sym, subst}
use Rattle.meter_apart.specs.Meter.{meter_masks, meter_part}
use Rattle.meter_apart.specs.Replies.{to_frame}
use Rattle.apart_roles.specs.MeterTurns.{IsPrepared, by_frame, noted_frame, with_noted}
use Rattle.apart_roles.proofs.TurnLemmas.{frame_prepared}
use Rattle.apart_roles.proofs.meter_turn.answer_frame.Goals as goal

pub returns-clause-prepares : goal.returns-clause-prepares
returns-clause-prepares g c journal after =
    let old = c.args.meter.now in
    let line = noted_frame (meter_part old) journal c.args.frame.now in
    let due = by_frame (to_frame (meter_part old) (meter_masks old) journal c.args.frame.now) in
    let noted = c.in_ok-keep_set.ensures.keeps journal after in
    subst (λ says. IsPrepared line due journal (g.W.Wire.view c.args.wire.now) (g.W.Wire.view c.keep_set.new.wire) says c.hear.new.self) (sym c.by_frame.ensures)
    (frame_prepared old c.keep_set.new.meter c.hear.new.self journal c.args.frame.now c.hear.result (g.W.Wire.view c.args.wire.now) (g.W.Wire.view c.keep_set.new.wire) c.keep_set.ensures.keys noted
    (c.hear.ensures.says (with_noted journal line) noted.after))
