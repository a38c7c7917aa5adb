use Rattle.run_rows.proofs.PlanLemmas.{can_run}
use Rattle.run_rows.proofs.laws.plans.Goals as goal

pub returns : goal.returns
returns c = can_run
