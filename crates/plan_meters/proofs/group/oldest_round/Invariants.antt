use Rattle.std.proofs.Common.{◌≤◌, take}
use Rattle.std.specs.List.{All}
use Rattle.plan_meters.proofs.group.oldest_round.Given as goal

abbrev pub invariant-loop-frame : goal.invariant-loop-frame
invariant-loop-frame l = All (λ f. l.oldest ≤ f.tag.round) (take l.frame-index l.came)
