use Rattle.group_plan.specs.Tables.{reading}
use Rattle.ideal_masks.specs.Pools.{pool_of}
use Rattle.ideal_masks.specs.AgreementParts.{AreKnownBefore}
use Rattle.ideal_masks.proofs.agreement.check_known_meters.Given as goal

abbrev pub invariant-loop-meter : goal.invariant-loop-meter
invariant-loop-meter l = AreKnownBefore (pool_of l.known) (reading l.first.table) (reading l.second.table) l.group l.round l.meter
