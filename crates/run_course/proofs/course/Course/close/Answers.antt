use Rattle.std.proofs.Common.{◌≡◌, ap, ◌∙◌, arith}
use Rattle.std.proofs.lemmas.Bool.{both_ways}
use Rattle.group_plan.specs.Plans.{PlanView, last_tick}
use Rattle.run_course.proofs.CourseLemmas.{close_must, close_done}
use Rattle.run_course.proofs.course.Course.close.Goals as goal

pub returns-then-not-may_call-clause-judges : goal.returns-then-not-may_call-clause-judges
returns-then-not-may_call-clause-judges c = λ plan xs e keeps entered now is fate run.
    let must = close_must plan xs c.args.self.now e c.args.group c.args.round keeps entered now is run in
    both_ways c.may_call.result c.if-not-may_call.true (c.may_call.ensures.1 must.0)

pub returns-then-due-self-clause-judges : goal.returns-then-due-self-clause-judges
returns-then-due-self-clause-judges c = λ plan xs e keeps entered now is fate run.
    let must = close_must plan xs c.args.self.now e c.args.group c.args.round keeps entered now is run in
    let at = must.1 in
    let w : c.w1.result ≡ plan.w1 = c.w1.ensures ∙ ap (λ (p : PlanView). p.w1) c.plan-2.ensures.plan ∙ ap (λ (p : PlanView). p.w1) keeps.noted.came_plan in
    let differ = c.if-due-self.true in
    differ (omega arith)

pub returns-then-not-remove_group-clause-judges : goal.returns-then-not-remove_group-clause-judges
returns-then-not-remove_group-clause-judges c = λ plan xs e keeps entered now is fate run.
    let must = close_must plan xs c.args.self.now e c.args.group c.args.round keeps entered now is run in
    c.if-not-remove_group.ensures.0 must.2

pub returns-clause-judges : goal.returns-clause-judges
returns-clause-judges c = λ plan xs e keeps entered now is fate.
    let out = c.if-not-remove_group.ensures in
    let last = c.requires.tick in
    let same = ap last_tick keeps.noted.came_plan in
    let w : c.w1.result ≡ plan.w1 = c.w1.ensures ∙ ap (λ (p : PlanView). p.w1) c.plan-2.ensures.plan ∙ ap (λ (p : PlanView). p.w1) keeps.noted.came_plan in
    let at = c.if-due-self.false in
    close_done plan xs c.args.self.now e c.args.group c.args.round _ out.0 out.1 keeps (omega (arith, last, same)) (c.may_call.ensures.0 c.if-not-may_call.false) now is fate (omega arith) out.2 out.3
