use Rattle.std.proofs.Common.{take}
use Rattle.ideal_masks.specs.Order.{AreMoves}
use Rattle.ideal_masks.proofs.order.are_moves.Given as goal

abbrev pub invariant-loop-at : goal.invariant-loop-at
invariant-loop-at l = AreMoves (take l.at l.rows)
