use Rattle.std.proofs.Common.{◌+◌, ◌++◌, true, sym, ap, subst, ◌∙◌, arith}
use Rattle.group_plan.specs.Plans.{PlanView, IsWithinLimits, last_tick}
use Rattle.run_course.specs.Courses.{Judges, IsReadingNow, stage_of}
use Rattle.run_course.specs.Stages.{arrivals}
use Rattle.run_course.proofs.CourseLemmas.{send_must, reading_must, reading_sent, placed, fate_of}
use Rattle.run_course.proofs.course.Course.send_reading.Goals as goal

pub returns-then-not-is_reading_now-clause-judges : goal.returns-then-not-is_reading_now-clause-judges
returns-then-not-is_reading_now-clause-judges c = λ plan xs e keeps phase kind now is fate posted run.
    let limits : IsWithinLimits plan = subst IsWithinLimits (c.plan.ensures.plan ∙ keeps.noted.came_plan) c.rounds-limits.ensures.limits in
    let must = send_must plan limits xs c.args.self.now e c.args.tag keeps phase now is run in
    c.if-not-is_reading_now.ensures (subst (λ (p : PlanView). IsReadingNow p (stage_of c.args.self.now) c.args.tag) (sym keeps.noted.came_plan) (reading_must plan (stage_of c.args.self.now) c.args.tag must kind))

pub returns-clause-judges : goal.returns-clause-judges
returns-clause-judges c = λ plan xs e keeps phase kind now is fate posted.
    let limits : IsWithinLimits plan = subst IsWithinLimits (c.plan.ensures.plan ∙ keeps.noted.came_plan) c.rounds-limits.ensures.limits in
    let last = c.requires.tick in
    let same = ap last_tick keeps.noted.came_plan in
    let place = placed c.args.self.now.came.plan plan c.args.tag.group c.args.tag.round c.args.tag.meter keeps.noted.came_plan c.requires.place in
    let may : IsReadingNow plan (stage_of c.args.self.now) c.args.tag = subst (λ (p : PlanView). IsReadingNow p (stage_of c.args.self.now) c.args.tag) keeps.noted.came_plan c.if-not-is_reading_now.ensures in
    let delays = c.delays-delays.ensures in
    subst (λ k. Judges plan xs e true (record c.args.self.now { least = k + 1; later = c.post.new.later })) (sym c.rank.ensures)
    (reading_sent plan limits xs c.args.self.now e c.args.tag c.post.new.later keeps phase (omega (arith, last, same)) now is (fate_of c.args.fate delays.few delays.in_range delays.rising e fate) posted place kind may
    (c.in_ok-post.ensures ∙ ap (λ f. c.args.self.now.later.items ++ arrivals c.args.self.now.tick c.args.tag f) (sym fate)))
