use Rattle.plan_files.proofs.SpelledPlan.{spelled_plan}
use Rattle.plan_files.proofs.laws.spelled_plan.Goals as goal

pub returns : goal.returns
returns c = spelled_plan
