use Rattle.pair_keys.specs.KeyParts.{AreEmptyRows}
use Rattle.pair_keys.proofs.pile.lower_rows.Given as goal

abbrev pub invariant-loop-meter : goal.invariant-loop-meter
invariant-loop-meter l = AreEmptyRows l.meter l.rows.items
