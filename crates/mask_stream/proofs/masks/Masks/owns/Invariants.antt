use Rattle.group_plan.specs.Plans.{is_place}
use Rattle.mask_stream.proofs.RowLoop.{Words}
use Rattle.mask_stream.proofs.masks.Masks.owns.Given as goal

abbrev pub invariant-loop-meter : goal.invariant-loop-meter
invariant-loop-meter g l =
    Words (is_place (g.Self.Masks.plan l.self) l.group l.round) ((g.Self.Masks.table l.self).own l.group l.round) l.meters l.meter-iterator l.row.items
