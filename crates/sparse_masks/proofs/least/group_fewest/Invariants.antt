use Rattle.group_book.specs.Books.{shape_of, past}
use Rattle.sparse_masks.specs.Opened.{IsFewest}
use Rattle.sparse_masks.proofs.least.group_fewest.Given as goal

abbrev pub invariant-loop-round : goal.invariant-loop-round
invariant-loop-round l = IsFewest l.width (shape_of l.book) (past l.book) l.group l.round 0 l.least
