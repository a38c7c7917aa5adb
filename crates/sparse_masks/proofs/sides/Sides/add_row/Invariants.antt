use Rattle.std.proofs.Common.{◌≡◌, ◌+◌, ◌-◌, ◌≤◌, ◌++◌}
use Rattle.std.specs.List.{flat_map, range_with_len}
use Rattle.pair_keys.specs.declared.KeyId.TheVariants.{Pair}
use Rattle.ideal_masks.specs.Moves.{moved}
use Rattle.sparse_masks.specs.SideParts.{moves_in}
use Rattle.sparse_masks.proofs.sides.Sides.add_row.Given as goal

abbrev pub invariant-loop-high : goal.invariant-loop-high
invariant-loop-high l = record {
  above : l.low + 1 ≤ l.high;
  below : l.high ≤ l.ring.meters;
  list : l.moves.items ≡ l.fn.moves.items ++ flat_map (λ j. moved (Pair l.self.group l.low j) l.self.round ((moves_in l.self).pair l.self.group l.self.round l.low j)) (range_with_len (l.low + 1) (l.high - (l.low + 1)));
}
