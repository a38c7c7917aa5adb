use Rattle.pair_keys.specs.Missing.{HasRowsTo}
use Rattle.pair_keys.proofs.pile.missing_pair.Given as goal

abbrev pub invariant-loop-low : goal.invariant-loop-low
invariant-loop-low l = HasRowsTo l.lower l.low
