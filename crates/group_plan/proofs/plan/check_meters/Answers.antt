use Rattle.std.proofs.Common.{sym}
use Rattle.group_plan.proofs.Faults.{few_meters}
use Rattle.group_plan.proofs.plan.check_meters.Goals as goal

pub returns-in-None-clause-few : goal.returns-in-None-clause-few
returns-in-None-clause-few c = few_meters _ (sym c.in-None.ensures.found)
