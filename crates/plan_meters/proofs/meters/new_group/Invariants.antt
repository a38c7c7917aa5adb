use Rattle.std.proofs.Common.{◌≤◌}
use Rattle.std.specs.Prelude.{List}
use Rattle.std.specs.List.{AllZip, range_with_len}
use Rattle.group_plan.specs.Plans.{size}
use Rattle.group_plan.specs.Tables.{presence_of}
use Rattle.event_schedule.specs.declared.Event.{Event}
use Rattle.plan_meters.specs.Meters.{IsMeterOf}
use Rattle.plan_meters.proofs.meters.new_group.Given as goal

abbrev pub invariant-loop-meter : goal.invariant-loop-meter
invariant-loop-meter l = record {
  to : l.meter ≤ size l.readings.plan.groups l.group;
  are : (past : List Event) → AllZip (IsMeterOf (presence_of l.readings) past 0 l.group) (range_with_len 0 l.meter) l.meters.items;
}
