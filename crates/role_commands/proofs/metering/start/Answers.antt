use Rattle.std.proofs.Common.{Ok, subst}
use Rattle.meter_apart.specs.declared.meter.MeterApart.{MeterApart}
use Rattle.apart_roles.specs.declared.outcome.Start.{Start}
use Rattle.apart_roles.specs.MeterStarts.{MeterStarts}
use Rattle.role_commands.proofs.FaultLemmas.{meter_fault, meter_ready, meter_unread}
use Rattle.role_commands.proofs.ToldLemmas.{told_not_started, told_rose}
use Rattle.role_commands.proofs.metering.start.Goals as goal

pub returns-in-Ok-Ready-clause-calm : goal.returns-in-Ok-Ready-clause-calm
returns-in-Ok-Ready-clause-calm g c =
    let started = subst (λ (s : Start MeterApart). MeterStarts c.args.keys c.args.journal.now (g.W.Wire.view c.args.wire.now) (g.W.Wire.view c.start_meter.new.wire) (Ok s)) c.in-Ok-Ready.field-0-is c.in-Ok-Ready.ensures.starts in
    meter_ready c.args.keys c.args.journal.now (g.W.Wire.view c.args.wire.now) (g.W.Wire.view c.start_meter.new.wire) c.in-Ok-Ready.meter started

pub returns-in-Ok-Unreadable-clause-cause : goal.returns-in-Ok-Unreadable-clause-cause
returns-in-Ok-Unreadable-clause-cause g c fault =
    let started = subst (λ (s : Start MeterApart). MeterStarts c.args.keys c.args.journal.now (g.W.Wire.view c.args.wire.now) (g.W.Wire.view c.start_meter.new.wire) (Ok s)) c.in-Ok-Unreadable.field-0-is c.in-Ok-Unreadable.ensures.starts in
    meter_unread c.args.keys c.args.journal.now (g.W.Wire.view c.args.wire.now) (g.W.Wire.view c.start_meter.new.wire) started

pub returns-in-Err-clause-ends : goal.returns-in-Err-clause-ends
returns-in-Err-clause-ends g c =
    told_not_started c.args.journal.now (MeterStarts c.args.keys c.args.journal.now (g.W.Wire.view c.args.wire.now) (g.W.Wire.view c.start_meter.new.wire)) c.in-Err.error c.stopped.result
    c.stopped.ensures c.in-Err.ensures.starts

pub returns-in-Err-clause-cause : goal.returns-in-Err-clause-cause
returns-in-Err-clause-cause g c fault =
    told_rose c.args.journal.now c.in-Err.error c.stopped.result (g.W.Wire.view c.args.wire.now) (g.W.Wire.view c.start_meter.new.wire) c.stopped.ensures
    (meter_fault c.args.keys c.args.journal.now (g.W.Wire.view c.args.wire.now) (g.W.Wire.view c.start_meter.new.wire) c.in-Err.error c.in-Err.ensures.starts) fault
