use Rattle.std.proofs.Common.{◌≡◌}
use Rattle.std.specs.List.{flat_map, range_with_len}
use Rattle.totals_report.specs.Books.{row_in}
use Rattle.totals_report.specs.Reports.{group_rows}
use Rattle.totals_report.proofs.book.rows_of.Given as goal

abbrev pub invariant-loop-group : goal.invariant-loop-group
invariant-loop-group l = l.rows.items ≡ flat_map (group_rows l.book.presence.plan (row_in l.book)) (range_with_len 0 l.group)
