use Rattle.std.proofs.Common.{inr}
use Rattle.command_words.specs.declared.outcome.Outcome.TheVariants.{Done}
use Rattle.role_commands.proofs.EndLemmas.{metered, not_metered}
use Rattle.role_commands.proofs.MeterLemmas.{run_rose, run_stopped}
use Rattle.role_commands.proofs.ToldLemmas.{told_stopped}
use Rattle.apart_roles.specs.MeterRuns.{StopsInRun}
use Rattle.role_commands.proofs.metering.meter.Goals as goal

pub returns-in-Err-start-clause-ends : goal.returns-in-Err-start-clause-ends
returns-in-Err-start-clause-ends g c =
    not_metered c.args.files.meter.now c.args.files.journal.now (g.D.Desk.view c.args.desk.now) (g.D.Desk.view c.fetch_keys.new.desk) (g.W.Wire.view c.args.wire.now) (g.W.Wire.view c.start.new.wire) c.in-Ok.value
    c.in-Err-start.outcome c.in-Ok.ensures.ends c.in-Err-start.ensures.ends

pub returns-in-Ok-run_meter-clause-ends : goal.returns-in-Ok-run_meter-clause-ends
returns-in-Ok-run_meter-clause-ends g c =
    metered c.args.files.meter.now c.args.files.journal.now (g.D.Desk.view c.args.desk.now) (g.D.Desk.view c.fetch_keys.new.desk) (g.W.Wire.view c.args.wire.now) (g.W.Wire.view c.start.new.wire)
    (g.W.Wire.view c.run_meter.new.wire) c.in-Ok.value c.in-Ok-start.value Done c.in-Ok.ensures.ends c.in-Ok-start.ensures.ends
    (λ lines is. (c.run_meter.new.meter, c.in-Ok-run_meter.ensures lines is.after))

pub returns-clause-ends : goal.returns-clause-ends
returns-clause-ends g c =
    metered c.args.files.meter.now c.args.files.journal.now (g.D.Desk.view c.args.desk.now) (g.D.Desk.view c.fetch_keys.new.desk) (g.W.Wire.view c.args.wire.now) (g.W.Wire.view c.start.new.wire)
    (g.W.Wire.view c.run_meter.new.wire) c.in-Ok.value c.in-Ok-start.value c.stopped.result c.in-Ok.ensures.ends c.in-Ok-start.ensures.ends
    (λ lines is.
    run_stopped c.in-Ok-start.value lines c.args.files.journal.now (g.W.Wire.view c.start.new.wire) (g.W.Wire.view c.run_meter.new.wire) c.stopped.result
    (told_stopped c.args.files.journal.now (λ error. StopsInRun c.in-Ok-start.value lines error (g.W.Wire.view c.start.new.wire) (g.W.Wire.view c.run_meter.new.wire)) c.in-Err-run_meter.error c.stopped.result
    c.stopped.ensures (c.in-Err-run_meter.ensures lines is.after)))

pub returns-clause-cause : goal.returns-clause-cause
returns-clause-cause g c fault =
    inr (run_rose c.in-Ok-start.value c.args.files.journal.now c.in-Err-run_meter.error c.stopped.result (g.W.Wire.view c.args.wire.now) (g.W.Wire.view c.start.new.wire) (g.W.Wire.view c.run_meter.new.wire)
    c.in-Ok-start.ensures.ready c.in-Ok-start.ensures.calm c.in-Err-run_meter.ensures c.stopped.ensures fault)
