use Rattle.group_plan.specs.Tables.{reading}
use Rattle.ideal_masks.specs.OffsetEnds.{AreAlikeBefore}
use Rattle.ideal_masks.proofs.agreement.check_presence.Given as goal

abbrev pub invariant-loop-group : goal.invariant-loop-group
invariant-loop-group l = AreAlikeBefore (reading l.first.table) (reading l.second.table) l.group 0 0
