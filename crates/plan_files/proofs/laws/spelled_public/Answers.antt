use Rattle.plan_files.proofs.SpelledPlan.{spelled_public}
use Rattle.plan_files.proofs.laws.spelled_public.Goals as goal

pub returns : goal.returns
returns c = spelled_public
