use Rattle.std.proofs.Common.{◌≡◌, ◌++◌, ◌∙◌, List, sym, ap, subst, append-nil, OnOk}
use Rattle.group_book.specs.Books.{shape_of, past}
use Rattle.ideal_masks.specs.declared.Offset.{Offset}
use Rattle.ideal_masks.specs.Chains.{deltas, pool_in, size_of, owns_of}
use Rattle.ideal_masks.proofs.ChainLemmas.{below-tests}
use Rattle.ideal_masks.proofs.LinkLemmas.{answered-below}
use Rattle.ideal_masks.proofs.PairLists.{pairs-open}
use Rattle.ideal_masks.proofs.compared.Compared.add_round.Goals as goal

pub returns-in_default : goal.returns-in_default
returns-in_default c =
    let at = c.args.self.now in
    let b = at.book.now in
    subst (λ (l : List Offset). OnOk c.add_deltas.result (c.add_deltas.new.moves.items ≡ c.args.moves.now.items ++ l))
    (sym (ap (λ l. owns_of at ++ l) (pairs-open (pool_in at) (shape_of b) (deltas at.first.now at.second.now) (past b) at.group at.round (size_of at) c.in_default.ensures) ∙ append-nil (owns_of at)))
    c.add_deltas.ensures

pub sum_of_deltas-total-requires-clause-meters : goal.sum_of_deltas-total-requires-clause-meters
sum_of_deltas-total-requires-clause-meters c =
    let at = c.args.self.now in
    let b = at.book.now in
    rw c.in-Some.ensures.answered (below-tests (size_of at) _ (answered-below (pool_in at) (shape_of b) at.group at.round (past b)))
