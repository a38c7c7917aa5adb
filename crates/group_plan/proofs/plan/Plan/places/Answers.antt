use Rattle.std.proofs.Common.{◌≡◌, refl, ap, arith}
use Rattle.group_plan.specs.Plans.{all_meters}
use Rattle.group_plan.proofs.Kept.{all_is, limits_of}
use Rattle.group_plan.proofs.plan.Plan.places.Goals as goal

pub returns-clause-all : goal.returns-clause-all
returns-clause-all c =
    let meters : c.len.result ≡ all_meters c.args.self.now.groups = omega (arith, c.len.ensures, all_is c.self.inside c.args.self.now c.self.invariant c.self.view_is) in
    rw (meters, ap (λ p. p.rounds) c.self.view_is) refl

pub returns-clause-limits : goal.returns-clause-limits
returns-clause-limits c = limits_of c.self.inside c.args.self.now c.self.invariant c.self.view_is
