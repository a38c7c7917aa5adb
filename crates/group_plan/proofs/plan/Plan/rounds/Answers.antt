use Rattle.std.proofs.Common.{subst}
use Rattle.group_plan.specs.Plans.{IsWithinLimits}
use Rattle.group_plan.proofs.Kept.{limits_are}
use Rattle.group_plan.proofs.plan.Plan.rounds.Goals as goal

pub returns-clause-limits : goal.returns-clause-limits
returns-clause-limits c = subst IsWithinLimits c.self.view_is (limits_are c.self.inside c.self.invariant)
