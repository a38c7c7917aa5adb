use Rattle.std.proofs.Common.{◌≡◌, filter}
use Rattle.std.specs.List.{range_with_len}
use Rattle.group_plan.specs.Plans.{is_member}
use Rattle.event_schedule.proofs.round_members.members.Given as goal

abbrev pub invariant-loop-meter : goal.invariant-loop-meter
invariant-loop-meter l = l.members ≡ filter (is_member l.plan.groups l.group l.round) (range_with_len 0 l.meter)
