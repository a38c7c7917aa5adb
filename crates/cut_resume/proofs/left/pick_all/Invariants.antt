use Rattle.std.proofs.Common.{◌≡◌, take}
use Rattle.cut_resume.specs.Left.{IsLeft, Leaves, entries_left}
use Rattle.cut_resume.proofs.left.pick_all.Given as goal

abbrev pub invariant-loop-at : goal.invariant-loop-at
invariant-loop-at l = record {
  left : IsLeft l.left;
  run : l.left.run ≡ l.fn.run;
  leaves : Leaves (take l.at l.cut.entries) l.fn.run.entries (entries_left l.left);
}
