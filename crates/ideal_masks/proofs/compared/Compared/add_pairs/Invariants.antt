use Rattle.group_book.specs.Books.{shape_of, past}
use Rattle.ideal_masks.specs.Pools.{chain_for}
use Rattle.ideal_masks.specs.Offsets.{pair_move}
use Rattle.ideal_masks.specs.Chains.{IsWalk, pool_in, deltas_of, size_of}
use Rattle.ideal_masks.proofs.RowLists.{IsListTo, row_list}
use Rattle.ideal_masks.proofs.compared.Compared.add_pairs.Given as goal

abbrev pub invariant-loop-low : goal.invariant-loop-low
invariant-loop-low l =
    IsListTo (λ i. row_list l.self.group l.self.round i (pair_move (deltas_of l.self) 0 (chain_for (pool_in l.self) (shape_of l.self.book.now) l.self.group l.self.round (past l.self.book.now)) i) (size_of l.self)) l.low l.fn.moves.items l.moves.items
    × IsWalk (deltas_of l.self) l.chain.answered l.low l.walk
