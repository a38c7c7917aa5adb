use Rattle.std.proofs.Common.{◌≡◌, ℕ, ◌<◌, take, length, get_or}
use Rattle.group_plan.specs.NewPlans.{meters_of}
use Rattle.group_plan.proofs.plan.starts_of.Given as goal

abbrev pub invariant-loop-group : goal.invariant-loop-group
invariant-loop-group l = record {
  next : l.next ≡ meters_of (take l.group-index l.groups);
  long : length l.starts.items ≡ l.group-index;
  each : (g : ℕ) → g < l.group-index → get_or l.starts.items g 0 ≡ meters_of (take g l.groups);
}
