use Rattle.std.proofs.Common.{◌≡◌, ◌++◌, ◌∙◌, List, sym, ap, subst, append-nil, OnOk}
use Rattle.pair_keys.specs.declared.KeyId.TheVariants.{Pair}
use Rattle.ideal_masks.specs.declared.Offset.{Offset}
use Rattle.ideal_masks.specs.Moves.{moved}
use Rattle.ideal_masks.specs.Chains.{IsRow}
use Rattle.ideal_masks.proofs.RowLists.{row-none_moves, row-moves}
use Rattle.ideal_masks.proofs.links.add_link.Goals as goal

pub returns-in_default : goal.returns-in_default
returns-in_default c = λ f n row.
    sym (ap (λ l. c.args.moves.now.items ++ l) (row-none_moves c.args.group c.args.round c.args.low n f (subst (IsRow f c.args.low n) c.in_default.is row)) ∙ append-nil c.args.moves.now.items)

pub returns : goal.returns
returns c = λ f n row.
    let l = c.in-Some.link in
    let ids : moved (Pair c.into.result c.into-2.result c.into-3.result) c.args.round l.by ≡ moved (Pair c.args.group c.args.low l.high) c.args.round l.by
    = λ k. moved (Pair (c.into.ensures k) (c.into-2.ensures k) (c.into-3.ensures k)) c.args.round l.by in
    subst (λ (added : List Offset). OnOk c.push_moved.result (c.push_moved.new.moves.items ≡ c.args.moves.now.items ++ added))
    (ids ∙ sym (row-moves c.args.group c.args.round c.args.low n f l (subst (IsRow f c.args.low n) c.in-Some.is row))) c.push_moved.ensures
