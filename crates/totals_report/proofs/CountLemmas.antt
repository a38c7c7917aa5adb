-- Counting over the rows of a report is counting over the rows of its rounds.
use Rattle.std.proofs.Common.{◌≡◌, ◌+◌, ℕ, Bool, List, [], ◌∷◌, map, refl, sym, ap, ◌∙◌, cond}
use Rattle.std.specs.List.{count_by, flat_map}
use Rattle.std.proofs.lemmas.List.Sums.{sum_by-append, sum_by-cons}
use Rattle.group_plan.specs.Plans.{PlanView}
use Rattle.run_rows.specs.Report.{Row, OpenRow, ThinRow, TotalRow, NoneRow}
use Rattle.run_rows.specs.Summary as summary
use Rattle.totals_report.specs.declared.row.ReportRow.{ReportRow}
use Rattle.totals_report.specs.Counts.{is_lacking, is_thin, is_total}
use Rattle.totals_report.specs.Reports.{report_row, row_outcome}

-- a test of a report's row is a test of the row of its round
module _ (plan : PlanView) (row_at : ℕ → ℕ → Row) (p : ReportRow → Bool) (q : Row → Bool) (same : (g r : ℕ) (row : Row) → p (report_row plan g r row) ≡ q row) where
  in_group : (g : ℕ) (rounds : List ℕ) → count_by p (map (λ r. report_row plan g r (row_at g r)) rounds) ≡ count_by q (map (row_at g) rounds)
  in_group g [] = refl
  in_group g (r ∷ rounds) =
      sum_by-cons (λ x. cond {A = ℕ} (p x) 1 0) (report_row plan g r (row_at g r)) (map (λ r. report_row plan g r (row_at g r)) rounds)
      ∙ ap (λ b. cond {A = ℕ} b 1 0 + count_by p (map (λ r. report_row plan g r (row_at g r)) rounds)) (same g r (row_at g r))
      ∙ ap (λ n. cond {A = ℕ} (q (row_at g r)) 1 0 + n) (in_group g rounds)
      ∙ sym (sum_by-cons (λ x. cond {A = ℕ} (q x) 1 0) (row_at g r) (map (row_at g) rounds))

  in_groups : (rounds groups : List ℕ) → count_by p (flat_map (λ g. map (λ r. report_row plan g r (row_at g r)) rounds) groups) ≡ count_by q (flat_map (λ g. map (row_at g) rounds) groups)
  in_groups rounds [] = refl
  in_groups rounds (g ∷ groups) =
      sum_by-append (λ x. cond {A = ℕ} (p x) 1 0) (map (λ r. report_row plan g r (row_at g r)) rounds) (flat_map (λ g. map (λ r. report_row plan g r (row_at g r)) rounds) groups)
      ∙ ap (λ n. n + count_by p (flat_map (λ g. map (λ r. report_row plan g r (row_at g r)) rounds) groups)) (in_group g rounds)
      ∙ ap (λ n. count_by q (map (row_at g) rounds) + n) (in_groups rounds groups)
      ∙ sym (sum_by-append (λ x. cond {A = ℕ} (q x) 1 0) (map (row_at g) rounds) (flat_map (λ g. map (row_at g) rounds) groups))

total_row : (row : Row) → is_total (row_outcome row) ≡ summary.is_total row
total_row (OpenRow survivors) = refl
total_row (ThinRow survivors) = refl
total_row (TotalRow survivors total) = refl
total_row (NoneRow survivors) = refl

none_row : (row : Row) → is_lacking (row_outcome row) ≡ summary.is_none_row row
none_row (OpenRow survivors) = refl
none_row (ThinRow survivors) = refl
none_row (TotalRow survivors total) = refl
none_row (NoneRow survivors) = refl

thin_row : (row : Row) → is_thin (row_outcome row) ≡ summary.is_thin row
thin_row (OpenRow survivors) = refl
thin_row (ThinRow survivors) = refl
thin_row (TotalRow survivors total) = refl
thin_row (NoneRow survivors) = refl

pub count_totals : (plan : PlanView) (row_at : ℕ → ℕ → Row) (rounds groups : List ℕ) → count_by (λ (row : ReportRow). is_total row.outcome) (flat_map (λ g. map (λ r. report_row plan g r (row_at g r)) rounds) groups) ≡ count_by summary.is_total (flat_map (λ g. map (row_at g) rounds) groups)
count_totals plan row_at rounds groups = in_groups plan row_at (λ row. is_total row.outcome) summary.is_total (λ g r row. total_row row) rounds groups

pub count_nones : (plan : PlanView) (row_at : ℕ → ℕ → Row) (rounds groups : List ℕ) → count_by (λ (row : ReportRow). is_lacking row.outcome) (flat_map (λ g. map (λ r. report_row plan g r (row_at g r)) rounds) groups) ≡ count_by summary.is_none_row (flat_map (λ g. map (row_at g) rounds) groups)
count_nones plan row_at rounds groups = in_groups plan row_at (λ row. is_lacking row.outcome) summary.is_none_row (λ g r row. none_row row) rounds groups

pub count_thins : (plan : PlanView) (row_at : ℕ → ℕ → Row) (rounds groups : List ℕ) → count_by (λ (row : ReportRow). is_thin row.outcome) (flat_map (λ g. map (λ r. report_row plan g r (row_at g r)) rounds) groups) ≡ count_by summary.is_thin (flat_map (λ g. map (row_at g) rounds) groups)
count_thins plan row_at rounds groups = in_groups plan row_at (λ row. is_thin row.outcome) summary.is_thin (λ g r row. thin_row row) rounds groups
