use Rattle.group_plan.specs.Tables.{reading}
use Rattle.ideal_masks.specs.OffsetEnds.{AreAlikeBefore}
use Rattle.ideal_masks.proofs.agreement.check_meters.Given as goal

abbrev pub invariant-loop-meter : goal.invariant-loop-meter
invariant-loop-meter l = AreAlikeBefore (reading l.first.table) (reading l.second.table) l.group l.round l.meter
