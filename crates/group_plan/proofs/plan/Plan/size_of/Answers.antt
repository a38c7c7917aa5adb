use Rattle.std.proofs.Common.{ap, rules, length, arith}
use Rattle.group_plan.proofs.Kept.{limits_of, size_is, size_past}
use Rattle.group_plan.proofs.plan.Plan.size_of.Goals as goal

pub returns-in-Some-clause-meters : goal.returns-in-Some-clause-meters
returns-in-Some-clause-meters c =
    size_is c.self.inside c.args.self.now c.self.invariant c.self.view_is c.args.group c.in-Some.group.now (omega (arith, c.in-Some.ensures.lookup.3.0, ap length c.deref.ensures.value)) (search rules)

pub returns-in-Some-clause-few : goal.returns-in-Some-clause-few
returns-in-Some-clause-few c =
    let size = size_is c.self.inside c.args.self.now c.self.invariant c.self.view_is c.args.group c.in-Some.group.now (omega (arith, c.in-Some.ensures.lookup.3.0, ap length c.deref.ensures.value)) (search rules) in
    omega (arith, size, (limits_of c.self.inside c.args.self.now c.self.invariant c.self.view_is).meters c.args.group)

pub returns-in-None-clause-meters : goal.returns-in-None-clause-meters
returns-in-None-clause-meters c = size_past c.self.inside c.args.self.now c.self.view_is c.args.group (omega (arith, c.in-None.ensures.lookup.3, ap length c.deref.ensures.value))
