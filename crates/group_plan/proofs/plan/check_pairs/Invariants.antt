use Rattle.std.proofs.Common.{◌≡◌, ◌*◌, ◌≤◌, take}
use Rattle.group_plan.specs.NewPlans.{pairs_of}
use Rattle.group_plan.proofs.plan.check_pairs.Given as goal

abbrev pub invariant-loop-group : goal.invariant-loop-group
invariant-loop-group l = (l.pairs ≡ pairs_of (take l.group-index l.groups)) × (l.pairs ≤ l.group-index * 32640)
