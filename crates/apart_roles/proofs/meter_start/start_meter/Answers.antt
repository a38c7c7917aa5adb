use Rattle.std.proofs.Common.{rules, Ok, inr}
use Rattle.apart_lines.specs.Heads.{meter_journal_head}
use Rattle.meter_apart.specs.Keys.{part_of}
use Rattle.apart_roles.specs.declared.outcome.Start.TheVariants as starts
use Rattle.apart_roles.specs.MeterStarts.{IsMeter, MeterOpens, follow_noted}
use Rattle.apart_roles.proofs.StartLemmas.{ready_has}
use Rattle.apart_roles.proofs.meter_start.start_meter.Goals as goal

pub returns-in-Err-welcome-clause-starts : goal.returns-in-Err-welcome-clause-starts
returns-in-Err-welcome-clause-starts g c =
    let opens : MeterOpens c.args.keys c.args.name.now (g.W.Wire.view c.args.wire.now) (g.W.Wire.view c.open.new.wire) (Ok (starts.Ready c.in-Ok-Ready.meter)) = search rules in
    inr (record { meter = c.in-Ok-Ready.meter; view = g.W.Wire.view c.open.new.wire; opens = opens; stops = c.in-Err-welcome.ensures })

pub returns-in-Ok-clause-ready : goal.returns-in-Ok-clause-ready
returns-in-Ok-clause-ready g c =
    let opens : MeterOpens c.args.keys c.args.name.now (g.W.Wire.view c.args.wire.now) (g.W.Wire.view c.open.new.wire) (Ok (starts.Ready c.in-Ok-Ready.meter)) = search rules in
    let has = ready_has (follow_noted c.args.keys) (IsMeter c.args.keys) c.args.name.now (meter_journal_head (part_of c.args.keys)) (g.W.Wire.view c.args.wire.now) (g.W.Wire.view c.open.new.wire) c.in-Ok-Ready.meter opens in
    record { journal = has.journal; after = has.after.after }
