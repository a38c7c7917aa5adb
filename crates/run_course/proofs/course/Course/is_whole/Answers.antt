use Rattle.std.proofs.Common.{◌≡◌, ◌+◌, arith, ap, subst, ◌∙◌}
use Rattle.group_plan.specs.Plans.{IsWithinLimits, last_tick}
use Rattle.run_course.proofs.CourseLemmas.{whole_ends}
use Rattle.run_course.proofs.course.Course.is_whole.Goals as goal

pub returns : goal.returns
returns c = λ plan xs keeps entered.
    let came = keeps.noted.came_plan in
    let limits : IsWithinLimits plan = subst IsWithinLimits (c.plan.ensures.plan ∙ came) c.rounds-limits.ensures.limits in
    let last : c.last_tick-last.result ≡ last_tick plan = c.last_tick-last.ensures ∙ ap last_tick (c.plan-2.ensures.plan ∙ came) in
    let early = c.requires.tick in
    let same = ap last_tick came in
    whole_ends plan limits xs (c.last_tick-last.result + 1) c.advance.result c.advance.new.self (ap (λ n. n + 1) last) (c.advance.ensures.advances plan xs keeps entered (omega (arith, early, same, last)))
