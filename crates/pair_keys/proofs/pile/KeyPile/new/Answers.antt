use Rattle.std.proofs.Common.{sym, subst}
use Rattle.group_plan.specs.Plans.{PlanView}
use Rattle.pair_keys.specs.KeyParts.{KeepsKeys}
use Rattle.pair_keys.proofs.EmptyLemmas.{keeps-empty, empty-keys}
use Rattle.pair_keys.proofs.pile.KeyPile.new.Goals as goal

pub invariant_of-result : goal.invariant_of-result
invariant_of-result c = record {
  keeps = subst (λ (p : PlanView). KeepsKeys p c.in_ok-groups.groups.items) (sym c.in_ok-try_copy.ensures)
      (keeps-empty c.args.plan.now c.groups.result.now c.in_ok-groups.groups.items c.groups.ensures.groups c.in_ok-groups.ensures);
}

pub returns : goal.returns
returns c =
    empty-keys c.args.plan.now c.in_ok-try_copy.field-0 c.groups.result.now c.in_ok-groups.groups.items c.in_ok-try_copy.ensures c.groups.ensures.groups c.in_ok-groups.ensures
