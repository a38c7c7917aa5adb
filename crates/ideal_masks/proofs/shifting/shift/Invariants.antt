use Rattle.std.proofs.Common.{take}
use Rattle.ideal_masks.proofs.ShiftLemmas.{Moved, plus}
use Rattle.ideal_masks.proofs.shifting.shift.Given as goal

abbrev pub invariant-loop-offset : goal.invariant-loop-offset
invariant-loop-offset l = Moved plus (take l.offset-index l.offsets) l.fn.table l.table
