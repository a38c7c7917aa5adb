use Rattle.plan_files.proofs.PlanLemmas.{whole_file}
use Rattle.plan_files.proofs.plan.complete.Goals as goal

pub returns-in-Ok-clause-file : goal.returns-in-Ok-clause-file
returns-in-Ok-clause-file c = whole_file _ c.args.plan _ c.in-Ok.ensures.whole.1 c.requires c.in-Ok.ensures.whole.0
