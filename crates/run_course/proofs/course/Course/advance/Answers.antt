use Rattle.std.proofs.Common.{◌+◌, ◌*◌, arith, subst, Ok}
use Rattle.std.specs.declared.alloc.AllocError.{AllocError}
use Rattle.run_course.specs.Courses.{TickBegins, IsStuck}
use Rattle.run_course.proofs.CourseLemmas.{stuck_later}
use Rattle.run_course.proofs.course.Course.advance.Goals as goal

pub returns-then-not-branch-clause-advances : goal.returns-then-not-branch-clause-advances
returns-then-not-branch-clause-advances c = λ plan xs keeps entered up.
    let at = c.loop-self.self in
    let stuck : IsStuck plan xs (3 * (at.tick + 1)) = subst (λ b. TickBegins {E = AllocError} plan xs at (Ok b) c.next_tick.new.self) c.if-not-branch.true (c.in_ok-next_tick.ensures.begins plan xs (c.loop-self.invariant.keeps plan xs keeps)) in
    let before = c.loop-self-test.true in
    stuck_later plan xs (3 * (at.tick + 1)) (3 * c.args.tick) (omega arith) stuck
