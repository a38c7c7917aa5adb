use Rattle.sparse_masks.specs.Opened.{Before}
use Rattle.sparse_masks.specs.SideParts.{one_sum}
use Rattle.sparse_masks.proofs.sides.Sides.check_ring.Given as goal

abbrev pub invariant-loop-meter : goal.invariant-loop-meter
invariant-loop-meter l = Before (one_sum l.self) l.self.group l.self.round l.meter
