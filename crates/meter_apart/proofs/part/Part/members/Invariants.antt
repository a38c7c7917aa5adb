use Rattle.std.proofs.Common.{◌≡◌}
use Rattle.group_plan.specs.Plans.{is_member, size}
use Rattle.meter_apart.proofs.PartLemmas.{below}
use Rattle.meter_apart.proofs.part.Part.members.Given as goal

-- the members below the meter that comes next
abbrev pub invariant-loop-meter : goal.invariant-loop-meter
invariant-loop-meter l = l.members ≡ below (is_member l.self.home.groups 0 l.round) (size l.self.home.groups 0) l.meter
