use Rattle.std.proofs.Common.{Some, sym, ap, ◌∙◌}
use Rattle.field_texts.specs.Numbers.{number_of, within}
use Rattle.command_words.specs.Known.{meter_by}
use Rattle.command_words.proofs.KnownLemmas.{meter-cut, no-meter}
use Rattle.command_words.proofs.known.read_meter.Goals as goal

pub returns-in_err-meter : goal.returns-in_err-meter
returns-in_err-meter c =
    let group = within 0 256 (number_of c.in_ok-group.group.now) in
    c.from_residual-in_err-meter.ensures
    ∙ sym (meter-cut c.args.text.now c.in_ok-group.group.now c.in_ok-group.meter.now c.in_ok-group.ensures.0 ∙ ap (meter_by group) (sym c.in_err-meter.ensures.number) ∙ no-meter group)

pub returns : goal.returns
returns c =
    let meter = within 0 256 (number_of c.in_ok-group.meter.now) in
    sym (meter-cut c.args.text.now c.in_ok-group.group.now c.in_ok-group.meter.now c.in_ok-group.ensures.0 ∙ ap (λ o. meter_by o meter) (sym c.in_ok-group-2.ensures.number) ∙ ap (meter_by (Some c.in_ok-group-2.group)) (sym c.in_ok-meter.ensures.number))
