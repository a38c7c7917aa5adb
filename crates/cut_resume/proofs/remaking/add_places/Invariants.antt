use Rattle.std.proofs.Common.{take}
use Rattle.cut_resume.specs.Left.{at_places}
use Rattle.cut_resume.specs.Remaking.{GoesOn}
use Rattle.cut_resume.proofs.remaking.add_places.Given as goal

abbrev pub invariant-loop-at : goal.invariant-loop-at
invariant-loop-at l = GoesOn l.fn.made (at_places l.run.entries (take l.at l.places)) l.made
