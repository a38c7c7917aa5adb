use Rattle.std.proofs.Common.{◌≡◌, true, ap, ◌∙◌}
use Rattle.group_plan.specs.Plans.{is_place, is_member}
use Rattle.group_plan.proofs.TableLemmas.{keeps_put, puts_now, small_if}
use Rattle.group_plan.proofs.table.Readings.put.Goals as goal

pub invariant_of-self : goal.invariant_of-self
invariant_of-self c =
    let place : is_place c.self.inside.plan c.args.group c.args.round c.args.meter ≡ true = ap (λ t. is_place t.plan c.args.group c.args.round c.args.meter) c.self.view_is ∙ c.requires.place in
    rw c.place_at-at.ensures.at
    (keeps_put c.self.inside.plan c.self.inside.values.items c.args.group c.args.round c.args.meter c.args.value c.self.invariant place (small_if c.args.value c.requires.small)
    (λ some. ap (λ t. is_member t.plan.groups c.args.group c.args.round c.args.meter) c.self.view_is ∙ c.requires.member some))

pub returns : goal.returns
returns c =
    puts_now c.args.self.now c.self.inside.plan c.self.inside.values.items c.self.invariant c.self.view_is c.args.group c.args.round c.args.meter c.args.value c.place_at-at.result c.requires.place c.place_at-at.ensures.at
