use Rattle.std.proofs.Common.{◌≡◌, ◌++◌}
use Rattle.std.specs.List.{flat_map, range_with_len}
use Rattle.plan_files.specs.PlainRows.{row_text}
use Rattle.plan_files.specs.Spelling.{readings_row}
use Rattle.plan_files.proofs.writing.put_group.Given as goal

abbrev pub invariant-loop-round : goal.invariant-loop-round
invariant-loop-round l = l.out.items ≡ l.fn.out.items ++ flat_map (λ r. row_text (readings_row l.readings.plan l.readings.table l.group r)) (range_with_len 0 l.round)
