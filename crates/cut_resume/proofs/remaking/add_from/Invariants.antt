use Rattle.std.proofs.Common.{◌-◌, drop, take}
use Rattle.cut_resume.specs.Remaking.{GoesOn}
use Rattle.cut_resume.proofs.remaking.add_from.Given as goal

abbrev pub invariant-loop-at : goal.invariant-loop-at
invariant-loop-at l = GoesOn l.fn.made (take (l.at - l.from) (drop l.from l.part.entries)) l.made
