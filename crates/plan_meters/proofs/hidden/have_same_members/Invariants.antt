use Rattle.std.proofs.Common.{◌≡◌, ℕ, ◌+◌, ◌<◌}
use Rattle.group_plan.specs.Plans.{members}
use Rattle.plan_meters.proofs.hidden.have_same_members.Given as goal

-- the rounds so far have the members of the first
abbrev pub invariant-loop-later : goal.invariant-loop-later
invariant-loop-later l = (j : ℕ) → j < l.later → members l.plan.groups l.group (l.first + j) ≡ members l.plan.groups l.group l.first
