use Rattle.std.proofs.Common.{◌≡◌, ◌++◌}
use Rattle.run_rows.specs.Ticks.{tags}
use Rattle.run_course.proofs.owed.add.Given as goal

abbrev pub invariant-loop-meter : goal.invariant-loop-meter
invariant-loop-meter l = l.owed.items ++ tags l.kind l.group l.round l.meter-iterator ≡ l.fn.owed.items ++ tags l.kind l.group l.round l.fn.meters
