use Rattle.std.proofs.Common.{◌≡◌, ◌++◌, ◌∙◌, sym, ap, append-nil, arith}
use Rattle.std.specs.List.{flat_map}
use Rattle.missing_round.specs.Words.{group}
use Rattle.group_book.specs.Books.{shape_of, past}
use Rattle.ideal_masks.specs.Pools.{chain_for}
use Rattle.ideal_masks.specs.Offsets.{pair_move}
use Rattle.ideal_masks.specs.Chains.{deltas, pool_in, deltas_of, size_of}
use Rattle.ideal_masks.proofs.LinkLemmas.{walk-begins}
use Rattle.ideal_masks.proofs.PairLists.{pairs-announced}
use Rattle.ideal_masks.proofs.RowLists.{row_list, list-more}
use Rattle.ideal_masks.proofs.compared.Compared.add_pairs.Goals as goal

pub loop-low-init : goal.loop-low-init
loop-low-init c =
    let b = c.args.self.now.book.now in (
      sym (append-nil c.args.moves.now.items),
      walk-begins (pool_in c.args.self.now) (shape_of b) c.args.self.now.group c.args.self.now.round (past b) (deltas_of c.args.self.now) c.args.chain.now c.requires.chain,
    )

pub loop-low-preserved : goal.loop-low-preserved
loop-low-preserved c =
    let at = c.args.self.now in
    let b = at.book.now in (
      list-more (λ i. row_list at.group at.round i (pair_move (deltas_of at) 0 (chain_for (pool_in at) (shape_of b) at.group at.round (past b)) i) (size_of at)) c.loop-low.low c.args.moves.now.items c.loop-low.moves.items c.add_link.new.moves.items c.loop-low.invariant.0
          (c.in_ok-add_link.ensures (pair_move (deltas_of at) 0 (chain_for (pool_in at) (shape_of b) at.group at.round (past b)) c.loop-low.low) (size_of at) c.link-link.ensures.row),
      c.link-link.ensures.walk,
    )

pub returns : goal.returns
returns c =
    let at = c.args.self.now in
    let b = at.book.now in
    let end : c.loop-low.low ≡ size_of at = omega (arith, c.meters-low-end.ensures.meters, c.loop-low-test.false, c.loop-low.auto.low-end) in
    c.loop-low.invariant.0
    ∙ ap (λ n. c.args.moves.now.items ++ flat_map (λ i. row_list at.group at.round i (pair_move (deltas_of at) 0 (chain_for (pool_in at) (shape_of b) at.group at.round (past b)) i) (size_of at)) (group n)) end
    ∙ ap (λ l. c.args.moves.now.items ++ l) (sym (pairs-announced (pool_in at) (shape_of b) (deltas at.first.now at.second.now) (past b) at.group at.round (size_of at) c.requires.chain.announced))
