use Rattle.pair_keys.proofs.MissingLemmas.{AreWhole}
use Rattle.pair_keys.proofs.pile.KeyPile.first_missing.Given as goal

abbrev pub invariant-loop-at : goal.invariant-loop-at
invariant-loop-at l = AreWhole l.self.groups.items l.at
