use Rattle.std.proofs.Common.{arith, ap, ◌∙◌, set}
use Rattle.std.specs.Prelude.{Some}
use Rattle.group_book.proofs.WordLemmas.{IsWithin, within, marked_set}
use Rattle.group_book.proofs.words.Words.put.Goals as goal

pub index_mut-requires : goal.index_mut-requires
index_mut-requires c =
    let is : IsWithin c.self.inside.marks.items c.self.inside.values.items c.args.at = within c.args.self.now _ _ c.args.at c.self.invariant c.self.view_is c.requires in
    omega arith

pub index_mut-requires-2 : goal.index_mut-requires-2
index_mut-requires-2 c =
    let is : IsWithin c.self.inside.marks.items c.self.inside.values.items c.args.at = within c.args.self.now _ _ c.args.at c.self.invariant c.self.view_is c.requires in
    omega arith

pub returns : goal.returns
returns c = marked_set c.self.inside.marks.items c.self.inside.values.items c.args.at c.args.word ∙ ap (λ words. set words c.args.at (Some c.args.word)) c.self.view_is
