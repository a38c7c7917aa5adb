use Rattle.group_plan.specs.Tables.{reading}
use Rattle.ideal_masks.specs.OffsetEnds.{AreAlikeBefore}
use Rattle.ideal_masks.proofs.agreement.check_rounds.Given as goal

abbrev pub invariant-loop-round : goal.invariant-loop-round
invariant-loop-round l = AreAlikeBefore (reading l.first.table) (reading l.second.table) l.group l.round 0
