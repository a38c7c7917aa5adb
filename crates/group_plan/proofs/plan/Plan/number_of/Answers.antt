use Rattle.std.proofs.Common.{arith}
use Rattle.group_plan.proofs.Kept.{group_is, start_read, all_is, few_meters}
use Rattle.group_plan.proofs.MeterNumbers.{meter_at-lt}
use Rattle.group_plan.proofs.plan.Plan.number_of.Goals as goal

pub index-requires : goal.index-requires
index-requires c = omega (arith, group_is c.self.inside c.args.self.now c.self.view_is c.args.group c.args.meter c.requires, c.self.invariant.starts.long)

pub returns-clause-at : goal.returns-clause-at
returns-clause-at c =
    start_read c.self.inside c.args.self.now c.self.invariant c.self.view_is c.args.group c.args.meter c.index.result.now c.requires c.index.ensures

pub returns-clause-within : goal.returns-clause-within
returns-clause-within c =
    let at = start_read c.self.inside c.args.self.now c.self.invariant c.self.view_is c.args.group c.args.meter c.index.result.now c.requires c.index.ensures in
    omega (arith, at, meter_at-lt c.args.self.now.groups c.args.group c.args.meter c.requires)

pub overflow_add-result : goal.overflow_add-result
overflow_add-result c =
    let at = start_read c.self.inside c.args.self.now c.self.invariant c.self.view_is c.args.group c.args.meter c.index.result.now c.requires c.index.ensures in
    omega (arith, at, meter_at-lt c.args.self.now.groups c.args.group c.args.meter c.requires, all_is c.self.inside c.args.self.now c.self.invariant c.self.view_is, few_meters c.self.inside c.self.invariant)
