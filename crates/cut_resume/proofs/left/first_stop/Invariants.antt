use Rattle.std.proofs.Common.{◌≡◌, true, take}
use Rattle.std.specs.List.{All}
use Rattle.cut_resume.specs.Left.{at_places}
use Rattle.cut_resume.specs.Order.{may_pass}
use Rattle.cut_resume.proofs.left.first_stop.Given as goal

abbrev pub invariant-loop-at : goal.invariant-loop-at
invariant-loop-at l = All (λ x. may_pass l.entry x ≡ true) (at_places l.run.entries (take l.at l.places))
