use Rattle.std.proofs.Common.{◌∙◌, ◌<◌, length, sym, rules}
use Rattle.pair_keys.specs.declared.KeyId.TheVariants.{Pair}
use Rattle.pair_keys.proofs.MissingLemmas.{row_room, pair_is, is_pair_key, not_none}
use Rattle.pair_keys.proofs.pile.KeyTable.pair.Goals as goal

pub index-requires-3 : goal.index-requires-3
index-requires-3 c =
    let pile = c.args.self.now.pile in
    let room : c.args.low < length c.index-2.result.now.items =
    row_room pile.plan pile.groups.items c.args.group c.args.low c.args.high c.index.result.now c.index-2.result.now pile.keeps c.requires.order c.requires.place c.index.ensures c.index-2.ensures in
    search (rules, room)

pub unreachable-requires : goal.unreachable-requires
unreachable-requires c =
    let pile = c.args.self.now.pile in
    not_none _ (c.args.self.now.whole (Pair c.args.group c.args.low c.args.high) (is_pair_key pile.plan c.args.group c.args.low c.args.high c.requires.order c.requires.place))
    (pair_is pile.plan pile.groups.items c.args.group c.args.low c.args.high c.index.result.now c.index-2.result.now c.index-3.result.now pile.keeps c.requires.order c.requires.place c.index.ensures c.index-2.ensures c.index-3.ensures ∙ c.in-None.is)

pub returns : goal.returns
returns c =
    let pile = c.args.self.now.pile in
    sym (pair_is pile.plan pile.groups.items c.args.group c.args.low c.args.high c.index.result.now c.index-2.result.now c.index-3.result.now pile.keeps c.requires.order c.requires.place c.index.ensures c.index-2.ensures c.index-3.ensures ∙ c.in-Some.is)
