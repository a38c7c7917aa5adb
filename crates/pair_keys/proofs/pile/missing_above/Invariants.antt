use Rattle.pair_keys.specs.Missing.{HasRowTo}
use Rattle.pair_keys.proofs.pile.missing_above.Given as goal

abbrev pub invariant-loop-high : goal.invariant-loop-high
invariant-loop-high l = HasRowTo l.lower l.low l.high
