use Rattle.std.proofs.Common.{◌≡◌, ◌≤◌, take}
use Rattle.std.specs.List.{count_by}
use Rattle.totals_report.specs.Counts.{is_lacking, is_running, is_thin, is_total}
use Rattle.totals_report.proofs.counts.count_outcomes.Given as goal

abbrev pub invariant-loop-row : goal.invariant-loop-row
invariant-loop-row l = record {
  totals : l.counts.totals ≡ count_by (λ row. is_total row.outcome) (take l.row-index l.rows);
  nones : l.counts.nones ≡ count_by (λ row. is_lacking row.outcome) (take l.row-index l.rows);
  thins : l.counts.thins ≡ count_by (λ row. is_thin row.outcome) (take l.row-index l.rows);
  opens : l.counts.opens ≡ count_by (λ row. is_running row.outcome) (take l.row-index l.rows);
  few_totals : l.counts.totals ≤ l.row-index;
  few_nones : l.counts.nones ≤ l.row-index;
  few_thins : l.counts.thins ≤ l.row-index;
  few_opens : l.counts.opens ≤ l.row-index;
}
