use Rattle.mask_stream.specs.Ends.{is_other, between}
use Rattle.mask_stream.proofs.RowLoop.{Words}
use Rattle.mask_stream.proofs.masks.Masks.pairs.Given as goal

abbrev pub invariant-loop-other : goal.invariant-loop-other
invariant-loop-other g l =
    Words (is_other (g.Self.Masks.plan l.self) l.group l.round l.meter) (between ((g.Self.Masks.table l.self).pair l.group l.round) l.meter) l.others l.other-iterator l.row.items
