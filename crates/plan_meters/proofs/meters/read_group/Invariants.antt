use Rattle.std.specs.Prelude.{List}
use Rattle.group_plan.specs.Plans.{size}
use Rattle.group_plan.specs.Tables.{presence_of}
use Rattle.event_schedule.specs.declared.Event.{Event}
use Rattle.plan_meters.specs.Meters.{IsMeterOf, AreOfGroup}
use Rattle.plan_meters.proofs.RangeLemmas.{Upto}
use Rattle.plan_meters.proofs.meters.read_group.Given as goal

abbrev pub invariant-loop-meter : goal.invariant-loop-meter
invariant-loop-meter l = (past : List Event) → AreOfGroup (presence_of l.readings) past l.round l.group l.fn.meters
    → Upto (λ t. IsMeterOf (presence_of l.readings) past t l.group) l.round l.meter (size l.readings.plan.groups l.group) l.meters
