use Rattle.std.proofs.Common.{◌+◌, List, sym, subst}
use Rattle.pair_keys.specs.KeyParts.{AreEmptyGroups}
use Rattle.pair_keys.specs.declared.pile.GroupKeys.{GroupKeys}
use Rattle.pair_keys.proofs.EmptyLemmas.{one_more_group}
use Rattle.pair_keys.proofs.pile.all_groups.Goals as goal

pub loop-group-preserved : goal.loop-group-preserved
loop-group-preserved c =
    subst (λ (l : List GroupKeys). AreEmptyGroups c.args.groups.now (c.loop-group.group-index + 1) l) (sym c.in_ok-push.ensures.items)
    (one_more_group c.args.groups.now c.loop-group.group-index c.loop-group.keys.items c.in_ok-group_keys.field-0 c.group-item.result
    c.loop-group.invariant c.loop-group-test.true c.group-item.is c.in_ok-group_keys.ensures)
