use Rattle.std.proofs.Common.{◌≡◌, ◌++◌, map}
use Rattle.std.specs.List.{range_with_len}
use Rattle.totals_report.specs.Books.{row_in}
use Rattle.totals_report.specs.Reports.{report_row}
use Rattle.audit_check.proofs.auditing.push_group.Given as goal

abbrev pub invariant-loop-round : goal.invariant-loop-round
invariant-loop-round l =
    l.rows.items ≡ l.fn.rows.items ++ map (λ r. report_row l.rounds.presence.plan l.group r (row_in l.rounds l.group r)) (range_with_len 0 l.round)
