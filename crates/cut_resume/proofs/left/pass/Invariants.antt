use Rattle.std.proofs.Common.{◌≡◌, ◌-◌, length}
use Rattle.cut_resume.specs.Left.{IsLeft, MayPassAll, entries_left}
use Rattle.cut_resume.proofs.left.pass.Given as goal

abbrev pub invariant-loop-left : goal.invariant-loop-left
invariant-loop-left l = record {
  left : IsLeft l.left;
  run : l.left.run ≡ l.fn.left.run;
  same : entries_left l.left ≡ entries_left l.fn.left;
  passed : MayPassAll l.entry l.left;
}

abbrev pub decreases-loop-left : goal.decreases-loop-left
decreases-loop-left l = length l.left.run.entries - l.left.next
