use Rattle.std.proofs.Common.{◌≡◌, ◌≤◌, ◌-◌, List}
use Rattle.group_plan.specs.Plans.{PlanView}
use Rattle.event_schedule.specs.declared.Entry.{Entry}
use Rattle.run_course.specs.Courses.{IsSound, Keeps, IsEntered}
use Rattle.run_course.proofs.course.Course.advance.Given as goal

abbrev pub invariant-loop-self : goal.invariant-loop-self
invariant-loop-self l = record {
  sound : IsSound l.self;
  plan : l.self.came.plan ≡ l.fn.self.came.plan;
  keeps : (plan : PlanView) (xs : List Entry) → Keeps plan xs l.fn.self → Keeps plan xs l.self;
  entered : (plan : PlanView) (xs : List Entry) → Keeps plan xs l.fn.self → IsEntered xs l.fn.self → IsEntered xs l.self;
  up : l.fn.self.tick ≤ l.tick → l.self.tick ≤ l.tick;
}

abbrev pub decreases-loop-self : goal.decreases-loop-self
decreases-loop-self l = l.tick - l.self.tick
