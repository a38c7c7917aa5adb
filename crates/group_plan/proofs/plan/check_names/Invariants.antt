use Rattle.std.proofs.Common.{◌≡◌, ℕ, ◌<◌, IsTrue, take, drop, get_or}
use Rattle.group_plan.specs.Names.{is_name}
use Rattle.group_plan.specs.declared.plan.GroupPlan.{GroupPlan}
use Rattle.group_plan.specs.NewPlans.{same_name, same_name_from}
use Rattle.group_plan.proofs.plan.check_names.Given as goal

abbrev pub invariant-loop-h : goal.invariant-loop-h
invariant-loop-h l = record {
  unlike : same_name_from (take l.h l.groups) (drop l.h l.groups) ≡ same_name l.groups;
  named : (k : ℕ) → k < l.h → (d : GroupPlan) → IsTrue (is_name (get_or l.groups k d).name);
}
