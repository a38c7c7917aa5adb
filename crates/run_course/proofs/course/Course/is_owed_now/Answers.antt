use Rattle.std.proofs.Common.{◌≡◌, ◌<◌, length, get_or, subst}
use Rattle.std.specs.Prelude.{List}
use Rattle.group_plan.specs.declared.Tag.{Tag}
use Rattle.run_course.proofs.CourseLemmas.{owed_first}
use Rattle.run_course.proofs.course.Course.is_owed_now.Goals as goal

pub returns-in-Some : goal.returns-in-Some
returns-in-Some c =
    let get = c.in-Some.ensures.lookup.3 in
    let is = c.deref.ensures.value in
    owed_first c.args.self.now.owed.items c.args.self.now.sent c.in-Some.next.now c.args.tag c.is_same.result
    (subst (λ (l : List Tag). c.args.self.now.sent < length l) is get.0) (λ d. subst (λ (l : List Tag). c.in-Some.next.now ≡ get_or l c.args.self.now.sent d) is (get.1 d))
    c.is_same.ensures.0 c.is_same.ensures.1
