use Rattle.pair_keys.specs.KeyParts.{AreEmptyGroups}
use Rattle.pair_keys.proofs.pile.all_groups.Given as goal

abbrev pub invariant-loop-group : goal.invariant-loop-group
invariant-loop-group l = AreEmptyGroups l.groups l.group-index l.keys.items
