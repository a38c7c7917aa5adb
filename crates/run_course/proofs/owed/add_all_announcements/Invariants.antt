use Rattle.std.proofs.Common.{◌≡◌, ◌++◌}
use Rattle.std.specs.List.{flat_map, range_with_len}
use Rattle.run_course.specs.Marks.{announced_marks}
use Rattle.run_course.proofs.owed.add_all_announcements.Given as goal

abbrev pub invariant-loop-round : goal.invariant-loop-round
invariant-loop-round l = l.owed.items ≡ l.fn.owed.items ++ flat_map (announced_marks l.came l.tick l.group) (range_with_len 0 l.round)
