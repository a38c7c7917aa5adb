use Rattle.std.proofs.Common.{◌+◌, ◌*◌, ap, subst, arith, Ok}
use Rattle.std.specs.declared.alloc.AllocError.{AllocError}
use Rattle.run_rows.specs.Ticks.{phase}
use Rattle.run_course.specs.Courses.{SendsBegin, IsStuck}
use Rattle.run_course.proofs.CourseLemmas.{after_stuck}
use Rattle.run_course.proofs.course.Course.send.Goals as goal

pub returns-then-not-branch-clause-judges : goal.returns-then-not-branch-clause-judges
returns-then-not-branch-clause-judges c = λ plan xs e keeps now is fate posted.
    let stuck : IsStuck plan xs (3 * c.args.self.now.tick + 2) = subst (λ b. SendsBegin {E = AllocError} plan xs c.args.self.now (Ok b) c.begin_sends.new.self) c.if-not-branch.true (c.in_ok-begin_sends.ensures.begins plan xs keeps) in
    after_stuck plan xs e (3 * c.args.self.now.tick + 2) stuck (let p = ap phase is in omega arith)
