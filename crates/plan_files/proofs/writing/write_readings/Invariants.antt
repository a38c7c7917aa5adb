use Rattle.std.proofs.Common.{◌≡◌, map}
use Rattle.std.specs.List.{flat_map, range_with_len}
use Rattle.plan_files.specs.PlainRows.{row_text}
use Rattle.plan_files.specs.Spelling.{readings_row}
use Rattle.plan_files.proofs.writing.write_readings.Given as goal

abbrev pub invariant-loop-group : goal.invariant-loop-group
invariant-loop-group l =
    l.out.items ≡ flat_map (λ g. flat_map row_text (map (readings_row l.readings.plan l.readings.table g) (range_with_len 0 l.readings.plan.rounds))) (range_with_len 0 l.group)
