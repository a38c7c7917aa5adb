use Rattle.std.proofs.Common.{refl, ap, ◌∙◌, subst, arith}
use Rattle.group_plan.specs.Plans.{IsWithinLimits}
use Rattle.group_plan.specs.Tables.{reading}
use Rattle.group_book.specs.Books.{shape_of, past}
use Rattle.ideal_masks.specs.Pools.{pool_of}
use Rattle.ideal_masks.proofs.AgreementLemmas.{totals-group, one_total-after}
use Rattle.ideal_masks.proofs.agreement.check_group.Goals as goal

pub returns : goal.returns
returns c =
    let b = c.args.book.now in
    let s = shape_of b in
    let x = reading c.args.first.now.table in
    let y = reading c.args.second.now.table in
    let limits : IsWithinLimits b.presence.plan = subst IsWithinLimits c.plan.ensures c.rounds-round-end.ensures.limits in
    let rounds = c.rounds-round-end.ensures.rounds ∙ ap (λ p. p.rounds) c.plan.ensures in
    totals-group (pool_of c.args.known.now) s x y (past b) c.args.group c.loop-round.round c.loop-round.invariant
    (λ r le. one_total-after (pool_of c.args.known.now) s b.presence.plan x y (past b) c.args.group r refl limits (omega (arith, rounds, c.loop-round-test.false, le)))
