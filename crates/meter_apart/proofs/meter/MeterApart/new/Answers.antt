use Rattle.meter_apart.proofs.StateLemmas.{state_new}
use Rattle.meter_apart.proofs.meter.MeterApart.new.Goals as goal

pub returns-clause-state : goal.returns-clause-state
returns-clause-state c = state_new c.args.keys.part.home.rounds _ _ _ _ _ _ c.in_ok-readings.ensures c.in_ok-core.ensures
