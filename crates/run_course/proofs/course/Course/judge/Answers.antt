use Rattle.std.proofs.Common.{◌*◌, arith, sym, ap, subst, ◌∙◌, Ok}
use Rattle.std.specs.declared.alloc.AllocError.{AllocError}
use Rattle.group_plan.specs.Plans.{last_tick}
use Rattle.run_course.specs.Courses.{Advances, IsStuck}
use Rattle.run_course.proofs.CourseLemmas.{not_back, after_stuck}
use Rattle.run_course.proofs.course.Course.judge.Goals as goal

pub returns-then-entry-self-clause-judges : goal.returns-then-entry-self-clause-judges
returns-then-entry-self-clause-judges c = λ plan xs keeps entered reached. not_back plan xs c.args.self.now c.args.entry.now reached c.if-entry-self.true

pub returns-then-not-branch-clause-judges : goal.returns-then-not-branch-clause-judges
returns-then-not-branch-clause-judges c = λ plan xs keeps entered reached.
    let at = c.args.entry.now.tick in
    let stuck : IsStuck plan xs (3 * at) = subst (λ b. Advances {E = AllocError} plan xs at (Ok b) c.advance.new.self) c.if-not-branch.true (c.in_ok-advance.ensures.advances plan xs keeps entered c.if-entry-self.false) in
    after_stuck plan xs c.args.entry.now (3 * at) stuck (omega arith)

pub judge_now-requires-clause-tick : goal.judge_now-requires-clause-tick
judge_now-requires-clause-tick c =
    let moved = c.in_ok-advance.ensures.moved c.if-not-branch.false c.if-entry-self.false in
    let last = c.if-last_tick-entry.false in
    let is = c.last_tick.ensures in
    let same = ap last_tick (c.advance.ensures.plan ∙ sym c.plan.ensures.plan) in
    omega (arith, moved, last, is, same)
