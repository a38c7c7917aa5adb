use Rattle.std.proofs.Common.{◌≡◌, ◌+◌, IsTrue, sum_by}
use Rattle.missing_round.specs.Words.{word}
use Rattle.group_plan.specs.Plans.{size}
use Rattle.group_plan.specs.Tables.{reading}
use Rattle.event_schedule.specs.Tables.{reading_at}
use Rattle.ideal_masks.specs.Chains.{are_below}
use Rattle.ideal_masks.proofs.agreement.sum_of_readings.Given as goal

abbrev pub invariant-loop-meter : goal.invariant-loop-meter
invariant-loop-meter l =
    IsTrue (are_below (size l.readings.plan.groups l.group) l.meter-iterator)
    × (word (l.sum + sum_by (reading_at (reading l.readings.table) l.group l.round) l.meter-iterator) ≡ word (sum_by (reading_at (reading l.readings.table) l.group l.round) l.fn.meters))
