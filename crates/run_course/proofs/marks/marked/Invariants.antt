use Rattle.std.proofs.Common.{◌≡◌, filter}
use Rattle.std.specs.List.{range_with_len}
use Rattle.group_plan.specs.Tables.{reading}
use Rattle.run_course.specs.Marks.{is_noted}
use Rattle.run_course.proofs.marks.marked.Given as goal

abbrev pub invariant-loop-meter : goal.invariant-loop-meter
invariant-loop-meter l = l.meters ≡ filter (λ i. is_noted l.from (reading l.table.table l.group l.round i)) (range_with_len 0 l.meter)
