use Rattle.std.proofs.Common.{◌≡◌, ◌++◌}
use Rattle.std.specs.List.{flat_map, range_with_len}
use Rattle.plan_files.specs.PlainRows.{file_text}
use Rattle.meter_files.specs.Spelling.{member_rows_of}
use Rattle.meter_files.proofs.rows.put_members.Given as goal

abbrev pub invariant-loop-meter : goal.invariant-loop-meter
invariant-loop-meter l = l.out.items ≡ l.fn.out.items ++ file_text (flat_map (member_rows_of l.plan l.place) (range_with_len 0 l.meter))
