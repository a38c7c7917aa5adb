use Rattle.group_plan.specs.Tables.{reading}
use Rattle.group_book.specs.Books.{shape_of, past}
use Rattle.ideal_masks.specs.Pools.{pool_of}
use Rattle.ideal_masks.specs.OffsetEnds.{HaveOneTotalBeforeFor}
use Rattle.ideal_masks.proofs.agreement.check_group.Given as goal

abbrev pub invariant-loop-round : goal.invariant-loop-round
invariant-loop-round l = HaveOneTotalBeforeFor (pool_of l.known) (shape_of l.book) (reading l.first.table) (reading l.second.table) (past l.book) l.group l.round
