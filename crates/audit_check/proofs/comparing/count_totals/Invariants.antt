use Rattle.std.proofs.Common.{◌≡◌, ◌≤◌, count_by, take}
use Rattle.totals_report.specs.Counts.{is_total}
use Rattle.audit_check.proofs.comparing.count_totals.Given as goal

abbrev pub invariant-loop-row : goal.invariant-loop-row
invariant-loop-row l = record {
  count : l.totals ≡ count_by (λ row. is_total row.outcome) (take l.row-index l.rows);
  few : l.totals ≤ l.row-index;
}
