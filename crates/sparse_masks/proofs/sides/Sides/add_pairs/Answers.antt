use Rattle.std.proofs.Common.{◌+◌, ◌-◌}
use Rattle.std.specs.List.{flat_map, range_with_len}
use Rattle.pair_keys.specs.declared.KeyId.TheVariants.{Pair}
use Rattle.ideal_masks.specs.Moves.{moved}
use Rattle.ideal_masks.proofs.RowLists.{list-more}
use Rattle.sparse_masks.specs.SideParts.{moves_in, size_of}
use Rattle.sparse_masks.proofs.sides.Sides.add_pairs.Goals as goal

pub loop-low-preserved : goal.loop-low-preserved
loop-low-preserved c =
    let at = c.args.self.now in
    list-more (λ i. flat_map (λ j. moved (Pair at.group i j) at.round ((moves_in at).pair at.group at.round i j)) (range_with_len (i + 1) (size_of at - (i + 1))))
    c.loop-low.low c.args.moves.now.items c.loop-low.moves.items c.add_row.new.moves.items c.loop-low.invariant c.in_ok-add_row.ensures
