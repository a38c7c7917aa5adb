use Rattle.std.proofs.Common.{◌∙◌, sym}
use Rattle.pair_keys.specs.declared.KeyId.TheVariants.{Own}
use Rattle.pair_keys.proofs.MissingLemmas.{own_is, is_own_key, not_none}
use Rattle.pair_keys.proofs.pile.KeyTable.own.Goals as goal

pub unreachable-requires : goal.unreachable-requires
unreachable-requires c =
    let pile = c.args.self.now.pile in
    not_none _ (c.args.self.now.whole (Own c.args.group c.args.meter) (is_own_key pile.plan c.args.group c.args.meter c.requires))
    (own_is pile.plan pile.groups.items c.args.group c.args.meter c.index.result.now c.index-2.result.now pile.keeps c.requires c.index.ensures c.index-2.ensures ∙ c.in-None.is)

pub returns : goal.returns
returns c =
    let pile = c.args.self.now.pile in
    sym (own_is pile.plan pile.groups.items c.args.group c.args.meter c.index.result.now c.index-2.result.now pile.keeps c.requires c.index.ensures c.index-2.ensures ∙ c.in-Some.is)
