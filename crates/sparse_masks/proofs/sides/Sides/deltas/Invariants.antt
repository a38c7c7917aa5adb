use Rattle.std.proofs.Common.{◌≡◌, map}
use Rattle.std.specs.List.{range_with_len}
use Rattle.sparse_masks.specs.SideParts.{deltas_of}
use Rattle.sparse_masks.proofs.sides.Sides.deltas.Given as goal

abbrev pub invariant-loop-meter : goal.invariant-loop-meter
invariant-loop-meter l = l.deltas.items ≡ map (deltas_of l.self) (range_with_len 0 l.meter)
