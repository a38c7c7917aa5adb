use Rattle.std.proofs.Common.{◌≡◌, ap, ◌∙◌, arith}
use Rattle.group_plan.specs.Plans.{PlanView}
use Rattle.billing_read.specs.Changes.{after_change}
use Rattle.billing_read.proofs.CopyLemmas.{group_more, none_outside, out_round}
use Rattle.billing_read.proofs.changes.Change.put_group.Goals as goal

pub returns-clause-after : goal.returns-clause-after
returns-clause-after c =
    let at = c.args.self.now in
    let x = at.readings.now in
    let y = c.loop-round.other in
    let same : y.plan ≡ x.plan = c.loop-round.invariant.plan ∙ c.requires.plan in
    let end = c.rounds-round-end.ensures.rounds ∙ ap (λ (p : PlanView). p.rounds) c.plan.ensures.plan in
    group_more (after_change at) y c.args.group c.loop-round.round c.loop-round.invariant.before
    (λ r i le. none_outside x y at.place.group at.place.round at.place.meter at.partner c.plan-readings.ensures.table c.plan-whole.ensures.table same c.args.group r i
    (out_round x.plan c.args.group r i (omega (arith, end, le, c.loop-round-test.false))))
