use Rattle.std.proofs.Common.{◌+◌, ◌-◌}
use Rattle.std.specs.List.{flat_map, range_with_len}
use Rattle.pair_keys.specs.declared.KeyId.TheVariants.{Pair}
use Rattle.ideal_masks.specs.Moves.{moved}
use Rattle.ideal_masks.proofs.RowLists.{IsListTo}
use Rattle.sparse_masks.specs.SideParts.{moves_in, size_of}
use Rattle.sparse_masks.proofs.sides.Sides.add_pairs.Given as goal

abbrev pub invariant-loop-low : goal.invariant-loop-low
invariant-loop-low l =
    IsListTo (λ i. flat_map (λ j. moved (Pair l.self.group i j) l.self.round ((moves_in l.self).pair l.self.group l.self.round i j)) (range_with_len (i + 1) (size_of l.self - (i + 1)))) l.low l.fn.moves.items l.moves.items
