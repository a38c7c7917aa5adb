use Rattle.pair_keys.specs.declared.KeyId.TheVariants.{Own}
use Rattle.ideal_masks.specs.Moves.{moved}
use Rattle.ideal_masks.proofs.RowLists.{IsListTo}
use Rattle.sparse_masks.specs.SideParts.{moves_in}
use Rattle.sparse_masks.proofs.sides.Sides.add_deltas.Given as goal

abbrev pub invariant-loop-meter : goal.invariant-loop-meter
invariant-loop-meter l = IsListTo (λ i. moved (Own l.self.group i) l.self.round ((moves_in l.self).own l.self.group l.self.round i)) l.meter l.fn.moves.items l.moves.items
