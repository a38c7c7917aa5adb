use Rattle.group_book.specs.Books.{shape_of, past}
use Rattle.sparse_masks.specs.Opened.{IsFewest}
use Rattle.sparse_masks.proofs.least.least_of_book.Given as goal

abbrev pub invariant-loop-group : goal.invariant-loop-group
invariant-loop-group l = IsFewest l.width (shape_of l.book) (past l.book) l.group 0 0 l.least
