use Rattle.group_plan.specs.Tables.{reading}
use Rattle.group_book.specs.Books.{shape_of, past}
use Rattle.sparse_masks.specs.Offsets.{HasOneRingSum}
use Rattle.sparse_masks.specs.Opened.{Before}
use Rattle.sparse_masks.proofs.sides.check_group.Given as goal

abbrev pub invariant-loop-round : goal.invariant-loop-round
invariant-loop-round l = Before (HasOneRingSum l.width (shape_of l.book) (reading l.first.table) (reading l.second.table) (past l.book)) l.group l.round 0
