use Rattle.std.proofs.Common.{take}
use Rattle.plan_meters.specs.Hearers.{AreHearers}
use Rattle.plan_meters.proofs.group.hearers_in.Given as goal

abbrev pub invariant-loop-frame : goal.invariant-loop-frame
invariant-loop-frame l = AreHearers (take l.frame-index l.came) l.group l.round l.hearers
