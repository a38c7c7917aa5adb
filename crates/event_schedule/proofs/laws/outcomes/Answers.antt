use Rattle.event_schedule.proofs.OutcomeLemmas.{settled}
use Rattle.event_schedule.proofs.laws.outcomes.Goals as goal

pub returns : goal.returns
returns c = settled
