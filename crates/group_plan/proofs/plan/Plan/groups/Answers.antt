use Rattle.std.proofs.Common.{map, subst, sym, ap, ◌∙◌}
use Rattle.group_plan.specs.Plans.{IsWithinLimits}
use Rattle.group_plan.specs.NewPlans.{stated}
use Rattle.group_plan.proofs.Kept.{limits_are, stated_is}
use Rattle.group_plan.proofs.plan.Plan.groups.Goals as goal

pub returns-clause-groups : goal.returns-clause-groups
returns-clause-groups c =
    c.as_slice.ensures.value ∙ sym (stated_is c.self.inside c.self.invariant) ∙ ap (λ p. map stated p.groups) c.self.view_is

pub returns-clause-limits : goal.returns-clause-limits
returns-clause-limits c = subst IsWithinLimits c.self.view_is (limits_are c.self.inside c.self.invariant)
