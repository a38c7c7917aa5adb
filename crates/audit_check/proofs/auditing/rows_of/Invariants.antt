use Rattle.std.proofs.Common.{◌≡◌}
use Rattle.std.specs.List.{flat_map, range_with_len}
use Rattle.totals_report.specs.Books.{row_in}
use Rattle.totals_report.specs.Reports.{group_rows}
use Rattle.audit_check.proofs.auditing.rows_of.Given as goal

abbrev pub invariant-loop-group : goal.invariant-loop-group
invariant-loop-group l = l.rows.items ≡ flat_map (group_rows l.rounds.presence.plan (row_in l.rounds)) (range_with_len 0 l.group)
