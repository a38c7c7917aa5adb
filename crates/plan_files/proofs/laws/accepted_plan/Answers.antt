use Rattle.plan_files.proofs.AcceptedFiles.{accepted_plans}
use Rattle.plan_files.proofs.laws.accepted_plan.Goals as goal

pub returns : goal.returns
returns c = accepted_plans
