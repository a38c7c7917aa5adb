use Rattle.std.proofs.Common.{◌∙◌, sym, ap, subst, length, arith}
use Rattle.std.proofs.lemmas.List.{length-map}
use Rattle.group_plan.specs.Plans.{PlanView}
use Rattle.group_plan.specs.NewPlans.{stated}
use Rattle.group_book.specs.Books.{shape_of, past}
use Rattle.sparse_masks.specs.Opened.{IsLeastOpened}
use Rattle.sparse_masks.proofs.OpenedLemmas.{fewest-all, fewest-none}
use Rattle.sparse_masks.proofs.least.least_of_book.Goals as goal

pub loop-group-init : goal.loop-group-init
loop-group-init c = fewest-none c.args.width (shape_of c.args.book.now) (past c.args.book.now)

pub returns : goal.returns
returns c =
    let b = c.args.book.now in
    let long = ap length c.groups-group-end.ensures.groups ∙ length-map c.plan.result.now.groups stated ∙ ap (λ (p : PlanView). length p.groups) c.plan.ensures in
    let test = c.loop-group-test.false in
    subst (IsLeastOpened c.args.width (shape_of b) (past b)) (sym c.unwrap_or.ensures)
    (fewest-all c.args.width (shape_of b) (past b) c.loop-group.group c.loop-group.least (omega (arith, long, test)) c.loop-group.invariant)
