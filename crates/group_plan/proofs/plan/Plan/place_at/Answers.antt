use Rattle.std.proofs.Common.{◌≡◌, refl, arith}
use Rattle.group_plan.specs.Plans.{all_meters}
use Rattle.group_plan.proofs.Kept.{all_is, limits_of, small_place}
use Rattle.group_plan.proofs.MeterNumbers.{in_place, place_at-lt}
use Rattle.group_plan.proofs.plan.Plan.place_at.Goals as goal

meters : (c : goal.After-len) → c.len.result ≡ all_meters c.args.self.now.groups
meters c = omega (arith, c.len.ensures, all_is c.self.inside c.args.self.now c.self.invariant c.self.view_is)

pub overflow_mul-result : goal.overflow_mul-result
overflow_mul-result c =
    let small = small_place c.args.self.now c.args.group c.args.round c.args.meter (limits_of c.self.inside c.args.self.now c.self.invariant c.self.view_is) c.requires in
    rw (meters c) (omega (arith, small.0))

pub overflow_add-result : goal.overflow_add-result
overflow_add-result c =
    let small = small_place c.args.self.now c.args.group c.args.round c.args.meter (limits_of c.self.inside c.args.self.now c.self.invariant c.self.view_is) c.requires in
    rw (meters c.before) (omega (arith, small.1))

pub returns-clause-at : goal.returns-clause-at
returns-clause-at c = rw (meters c.before, c.meter_at.ensures.at) refl

pub returns-clause-within : goal.returns-clause-within
returns-clause-within c =
    let both = in_place c.args.self.now c.args.group c.args.round c.args.meter c.requires in
    rw (meters c.before, c.meter_at.ensures.at) (place_at-lt c.args.self.now c.args.group c.args.round c.args.meter both.0 both.1)
