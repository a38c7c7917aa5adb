use Rattle.std.proofs.Common.{◌≡◌, ◌∷◌, ◌++◌}
use Rattle.std.specs.List.{flat_map, range_with_len}
use Rattle.group_plan.specs.Tables.{reading}
use Rattle.plan_files.specs.Spelling.{reading_field}
use Rattle.plan_files.proofs.writing.put_meters.Given as goal

abbrev pub invariant-loop-meter : goal.invariant-loop-meter
invariant-loop-meter l = l.out.items ≡ l.fn.out.items ++ flat_map (λ i. 44 ∷ reading_field (reading l.readings.table l.group l.round i)) (range_with_len 0 l.meter)
