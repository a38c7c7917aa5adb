use Rattle.std.proofs.Common.{◌≡◌, ◌+◌, ◌*◌, List, map, filter, not, sym, ap, subst, ◌∙◌, refl, arith, Ok}
use Rattle.std.specs.Prelude.{reverse, ◌==◌, IsPermutation}
use Rattle.std.specs.declared.alloc.AllocError.{AllocError}
use Rattle.group_plan.specs.Plans.{PlanView, IsWithinLimits, last_tick}
use Rattle.run_course.specs.declared.waiting.Arrival.{Arrival}
use Rattle.run_course.specs.Courses.{SendsBegin, IsStuck}
use Rattle.run_rows.specs.Ticks.{NoneBefore}
use Rattle.run_course.specs.Stages.{due_groups}
use Rattle.run_course.proofs.CourseLemmas.{next_must, next_begun, stuck_later, drop_past, drop_some}
use Rattle.run_course.proofs.course.Course.next_tick.Goals as goal

pub returns-then-not-branch-clause-begins : goal.returns-then-not-branch-clause-begins
returns-then-not-branch-clause-begins c = λ plan xs keeps.
    let now = c.args.self.now.tick in
    let stuck : IsStuck plan xs (3 * now + 2) = subst (λ b. SendsBegin {E = AllocError} plan xs c.args.self.now (Ok b) c.begin_sends.new.self) c.if-not-branch.true (c.in_ok-begin_sends.ensures.begins plan xs keeps) in
    stuck_later plan xs (3 * now + 2) (3 * (now + 1)) (omega arith) stuck

pub returns-then-self-len-clause-begins : goal.returns-then-self-len-clause-begins
returns-then-self-len-clause-begins c = λ plan xs keeps more run none.
    let begun = subst (λ b. SendsBegin {E = AllocError} plan xs c.args.self.now (Ok b) c.begin_sends.new.self) c.if-not-branch.false (c.in_ok-begin_sends.ensures.begins plan xs keeps) in
    let limits : IsWithinLimits plan = subst IsWithinLimits (c.plan.ensures.plan ∙ begun.0.noted.came_plan) c.rounds-limits.ensures.limits in
    let len = c.len.ensures in
    let low = c.if-self-len.true in
    let now = c.begin_sends.new.self in
    drop_some now.owed.items now.sent (omega (arith, low, len, now.owed.ok))
    (next_must plan limits xs now begun.0 begun.1 more run (subst (λ t. NoneBefore (3 * (t + 1)) more) (sym begun.2) none))

pub returns-clause-begins : goal.returns-clause-begins
returns-clause-begins c = λ plan xs keeps.
    let now = c.begin_sends.new.self in
    let begun = subst (λ b. SendsBegin {E = AllocError} plan xs c.args.self.now (Ok b) c.begin_sends.new.self) c.if-not-branch.false (c.in_ok-begin_sends.ensures.begins plan xs keeps) in
    let plan_is : c.plan-plan.result.now ≡ plan = c.plan-plan.ensures.plan ∙ begun.0.noted.came_plan in
    let w1 : c.w1.result ≡ plan.w1 = c.w1.ensures ∙ ap (λ (p : PlanView). p.w1) plan_is in
    let w1' : c.w1-2.result ≡ plan.w1 = c.w1-2.ensures ∙ ap (λ (p : PlanView). p.w1) plan_is in
    let w2 : c.w2.result ≡ plan.w2 = c.w2.ensures ∙ ap (λ (p : PlanView). p.w2) plan_is in
    let windows : c.w1-2.result + c.w2.result ≡ plan.w1 + plan.w2 = omega arith in
    let over = c.if-self-len.false in
    let len = c.len.ensures in
    let a : IsPermutation (map (λ a. a.tag) (filter (λ a. a.tick == now.tick + 1) (reverse now.later.items))) c.in_ok-self.field-0.items
    = subst (λ (l : List Arrival). IsPermutation (map (λ a. a.tag) (filter (λ a. a.tick == now.tick + 1) (reverse l))) c.in_ok-self.field-0.items) c.deref.ensures.value c.in_ok-self.ensures in
    let b : c.in_ok-self-2.field-0.items ≡ filter (λ a. not (a.tick == now.tick + 1)) now.later.items
    = c.in_ok-self-2.ensures ∙ ap (λ (l : List Arrival). filter (λ a. not (a.tick == now.tick + 1)) l) c.deref-2.ensures.value in
    let d : c.in_ok-self-3.field-0.items ≡ due_groups plan plan.w1 (now.tick + 1)
    = c.in_ok-self-3.ensures ∙ ap (λ (p : PlanView). due_groups p c.w1.result (now.tick + 1)) plan_is ∙ ap (λ w. due_groups plan w (now.tick + 1)) w1 in
    let e : c.in_ok-self-4.field-0.items ≡ due_groups plan (plan.w1 + plan.w2) (now.tick + 1)
    = c.in_ok-self-4.ensures ∙ ap (λ (p : PlanView). due_groups p (c.w1-2.result + c.w2.result) (now.tick + 1)) plan_is ∙ ap (λ w. due_groups plan w (now.tick + 1)) windows in (
      next_begun plan xs now c.in_ok-self.field-0 c.in_ok-self-2.field-0 c.in_ok-self-3.field-0 c.in_ok-self-4.field-0 begun.0 begun.1 (drop_past now.owed.items now.sent (omega (arith, over, len, now.owed.ok))) a b d e,
      refl,
      ap (λ t. t + 1) begun.2,
    )

pub returns-clause-sound : goal.returns-clause-sound
returns-clause-sound c =
    let same = c.begin_sends.ensures.tick in
    let last = c.requires.tick in
    let plan = ap last_tick c.begin_sends.ensures.plan in
    record { tables = c.begin_sends.ensures.sound.tables; tick = omega (arith, same, last, plan) }
