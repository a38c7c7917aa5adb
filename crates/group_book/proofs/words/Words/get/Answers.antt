use Rattle.std.proofs.Common.{arith}
use Rattle.group_book.proofs.WordLemmas.{IsWithin, within, word_there, none_there}
use Rattle.group_book.proofs.words.Words.get.Goals as goal

pub index-requires : goal.index-requires
index-requires c =
    let is : IsWithin c.self.inside.marks.items c.self.inside.values.items c.args.at = within c.args.self.now _ _ c.args.at c.self.invariant c.self.view_is c.requires in
    omega arith

pub index-requires-then-index : goal.index-requires-then-index
index-requires-then-index c =
    let is : IsWithin c.self.inside.marks.items c.self.inside.values.items c.args.at = within c.args.self.now _ _ c.args.at c.self.invariant c.self.view_is c.requires in
    omega arith

pub returns-then-index : goal.returns-then-index
returns-then-index c = word_there c.args.self.now _ _ c.args.at _ _ c.self.invariant c.self.view_is c.requires c.index.ensures c.if-index.true c.index-then-index.ensures

pub returns-else-index : goal.returns-else-index
returns-else-index c = none_there c.args.self.now _ _ c.args.at _ c.self.invariant c.self.view_is c.requires c.index.ensures c.if-index.false
