use Rattle.std.proofs.Common.{◌≡◌, ◌+◌, ap, ◌∙◌, refl, arith}
use Rattle.group_plan.specs.Plans.{PlanView}
use Rattle.run_course.specs.Stages.{due_groups}
use Rattle.run_course.proofs.CourseLemmas.{first_keeps}
use Rattle.run_course.proofs.course.Course.new.Goals as goal

pub returns-clause-keeps : goal.returns-clause-keeps
returns-clause-keeps c =
    let plan : PlanView = c.args.plan.now in
    let w1 : c.w1.result ≡ plan.w1 = c.w1.ensures in
    let both : c.w1-2.result + c.w2.result ≡ plan.w1 + plan.w2 = (let a : c.w1-2.result ≡ plan.w1 = c.w1-2.ensures in let b : c.w2.result ≡ plan.w2 = c.w2.ensures in omega arith) in
    first_keeps plan _ refl refl c.new.ensures.items c.new-2.ensures.items
    (c.in_ok-groups_due.ensures ∙ ap (λ w. due_groups plan w 0) w1) (c.in_ok-groups_due-2.ensures ∙ ap (λ w. due_groups plan w 0) both)
    c.new-3.ensures.items refl refl c.in_ok-new.ensures c.in_ok-new-2.ensures
