use Rattle.pair_keys.specs.declared.KeyId.TheVariants.{Own}
use Rattle.ideal_masks.specs.Moves.{moved}
use Rattle.ideal_masks.specs.Chains.{own_moves_of}
use Rattle.ideal_masks.proofs.RowLists.{IsListTo}
use Rattle.ideal_masks.proofs.compared.Compared.add_owns.Given as goal

abbrev pub invariant-loop-meter : goal.invariant-loop-meter
invariant-loop-meter l = IsListTo (λ i. moved (Own l.self.group i) l.self.round (own_moves_of l.self i)) l.meter l.fn.moves.items l.moves.items
