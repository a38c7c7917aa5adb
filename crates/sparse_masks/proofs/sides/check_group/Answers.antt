use Rattle.std.proofs.Common.{refl, ap, ◌∙◌, subst, arith}
use Rattle.group_plan.specs.Plans.{IsWithinLimits, PlanView}
use Rattle.group_plan.specs.Tables.{reading}
use Rattle.group_book.specs.Books.{shape_of, past}
use Rattle.sparse_masks.proofs.SumLemmas.{sums-group}
use Rattle.sparse_masks.proofs.sides.check_group.Goals as goal

pub returns : goal.returns
returns c =
    let b = c.args.book.now in
    let limits : IsWithinLimits b.presence.plan = subst IsWithinLimits c.plan.ensures c.rounds-round-end.ensures.limits in
    let rounds = c.rounds-round-end.ensures.rounds ∙ ap (λ (p : PlanView). p.rounds) c.plan.ensures in
    let test = c.loop-round-test.false in
    sums-group c.args.width b.presence.plan (shape_of b) (reading c.args.first.now.table) (reading c.args.second.now.table) (past b) c.args.group c.loop-round.round refl limits (omega (arith, rounds, test)) c.loop-round.invariant
