use Rattle.std.proofs.Common.{◌≡◌, ◌++◌}
use Rattle.std.specs.List.{flat_map, range_with_len}
use Rattle.pair_keys.specs.Keys.{table_of}
use Rattle.plan_files.specs.PlainRows.{file_text}
use Rattle.meter_files.specs.Spelling.{pair_rows_of}
use Rattle.meter_files.proofs.file.put_pairs.Given as goal

abbrev pub invariant-loop-other : goal.invariant-loop-other
invariant-loop-other l = l.out.items ≡ l.fn.out.items ++ file_text (flat_map (pair_rows_of (table_of l.keys) l.group l.meter) (range_with_len 0 l.other))
