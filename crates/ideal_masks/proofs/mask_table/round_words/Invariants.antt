use Rattle.group_plan.specs.Plans.{size}
use Rattle.ideal_masks.specs.KeptMasks.{meter_of, IsSmall}
use Rattle.ideal_masks.proofs.Tabulated.{Upto}
use Rattle.ideal_masks.proofs.mask_table.round_words.Given as goal

abbrev pub invariant-loop-meter : goal.invariant-loop-meter
invariant-loop-meter g l =
    Upto IsSmall (meter_of (g.M.Masks.table l.masks) l.group l.round (size l.plan.groups l.group)) l.meter l.meters.items
