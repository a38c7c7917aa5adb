use Rattle.std.proofs.Common.{ap, arith}
use Rattle.group_plan.specs.Plans.{last_tick}
use Rattle.run_course.specs.Courses.{phase_number}
use Rattle.run_course.proofs.CourseLemmas.{take_must, take_done, placed}
use Rattle.run_course.proofs.course.Course.take.Goals as goal

pub returns-in-Rounds-clause-judges : goal.returns-in-Rounds-clause-judges
returns-in-Rounds-clause-judges c = λ plan xs e keeps entered now is fate run.
    let first = (take_must plan xs c.args.self.now e c.args.tag keeps entered now is run).0 in
    let second = ap phase_number c.in-Rounds.is in
    omega (arith, first, second)

pub returns-in-Sends-clause-judges : goal.returns-in-Sends-clause-judges
returns-in-Sends-clause-judges c = λ plan xs e keeps entered now is fate run.
    let first = (take_must plan xs c.args.self.now e c.args.tag keeps entered now is run).0 in
    let third = ap phase_number c.in-Sends.is in
    omega (arith, first, third)

pub returns-then-not-remove_copy-clause-judges : goal.returns-then-not-remove_copy-clause-judges
returns-then-not-remove_copy-clause-judges c = λ plan xs e keeps entered now is fate run.
    c.if-not-remove_copy.ensures.0 (take_must plan xs c.args.self.now e c.args.tag keeps entered now is run).1

pub returns-clause-judges : goal.returns-clause-judges
returns-clause-judges c = λ plan xs e keeps entered now is fate.
    let out = c.if-not-remove_copy.ensures in
    let last = c.requires.tick in
    let same = ap last_tick keeps.noted.came_plan in
    let place = placed c.args.self.now.came.plan plan c.args.tag.group c.args.tag.round c.args.tag.meter keeps.noted.came_plan c.requires.place in
    take_done plan xs c.args.self.now e c.args.tag _ _ _ out.0 out.1 keeps (omega (arith, last, same)) (ap phase_number c.in-Takes.is) now is fate place.0 out.2 out.3 c.note.ensures
