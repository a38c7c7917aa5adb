use Rattle.std.proofs.Common.{subst, ◌∙◌, refl}
use Rattle.std.proofs.lemmas.Bool.{both_ways}
use Rattle.group_plan.specs.Plans.{IsWithinLimits}
use Rattle.run_course.proofs.CourseLemmas.{sends_must, sends_begun, low_phase}
use Rattle.run_course.proofs.course.Course.begin_sends.Goals as goal

pub returns-then-not-may_send-clause-begins : goal.returns-then-not-may_send-clause-begins
returns-then-not-may_send-clause-begins c = λ plan xs keeps more run none.
    both_ways c.may_send.result c.if-not-may_send.true (c.may_send.ensures.1 (sends_must plan xs c.args.self.now keeps more run none))

pub returns-clause-begins : goal.returns-clause-begins
returns-clause-begins c = λ plan xs keeps.
    let limits : IsWithinLimits plan = subst IsWithinLimits (c.plan.ensures.plan ∙ keeps.noted.came_plan) c.rounds-limits.ensures.limits in
    let may = c.may_send.ensures.0 c.if-not-may_send.false in
    (sends_begun plan limits xs c.args.self.now _ keeps (low_phase c.args.self.now.phase c.in_default.not-Sends) may.0 may.1 may.2 c.in_ok-self.ensures, refl, refl)
