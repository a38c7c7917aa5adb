use Rattle.std.proofs.Common.{◌+◌, ◌++◌, true, sym, ap, subst, ◌∙◌, arith}
use Rattle.group_plan.specs.Plans.{IsWithinLimits, last_tick}
use Rattle.run_course.specs.Courses.{Judges, stage_of}
use Rattle.run_course.specs.Stages.{arrivals}
use Rattle.run_course.proofs.CourseLemmas.{send_must, owed_must, owed_sent, fate_of}
use Rattle.run_course.proofs.course.Course.send_owed.Goals as goal

pub returns-then-not-is_owed_now-clause-judges : goal.returns-then-not-is_owed_now-clause-judges
returns-then-not-is_owed_now-clause-judges c = λ plan xs e keeps phase other now is fate posted run.
    let limits : IsWithinLimits plan = subst IsWithinLimits (c.plan.ensures.plan ∙ keeps.noted.came_plan) c.rounds-limits.ensures.limits in
    let must = send_must plan limits xs c.args.self.now e c.args.tag keeps phase now is run in
    c.if-not-is_owed_now.ensures (owed_must plan (stage_of c.args.self.now) c.args.tag must other)

pub returns-clause-judges : goal.returns-clause-judges
returns-clause-judges c = λ plan xs e keeps phase other now is fate posted.
    let last = c.requires.tick in
    let same = ap last_tick keeps.noted.came_plan in
    let may = c.if-not-is_owed_now.ensures in
    let delays = c.delays-delays.ensures in
    subst (λ k. Judges plan xs e true (record c.args.self.now { sent = c.args.self.now.sent + 1; least = k + 1; later = c.post.new.later })) (sym c.rank.ensures)
    (owed_sent plan xs c.args.self.now e c.args.tag c.post.new.later may.0 keeps phase (omega (arith, last, same)) now is (fate_of c.args.fate delays.few delays.in_range delays.rising e fate) posted may.1
    (c.in_ok-post.ensures ∙ ap (λ f. c.args.self.now.later.items ++ arrivals c.args.self.now.tick c.args.tag f) (sym fate)))
