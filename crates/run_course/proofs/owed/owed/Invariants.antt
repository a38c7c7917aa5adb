use Rattle.std.proofs.Common.{◌≡◌}
use Rattle.std.specs.List.{flat_map, range_with_len}
use Rattle.run_course.specs.Marks.{owed_by_marks}
use Rattle.run_course.proofs.owed.owed.Given as goal

abbrev pub invariant-loop-group : goal.invariant-loop-group
invariant-loop-group l = l.owed.items ≡ flat_map (owed_by_marks l.came l.heard l.tick) (range_with_len 0 l.group)
