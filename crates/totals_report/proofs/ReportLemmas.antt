-- Reports of the same rows.
use Rattle.std.proofs.Common.{◌≡◌, ◌<◌, ◌+◌, ℕ, zero, suc, List, ◌∷◌, ◌++◌, length, map, refl, ap, ◌∙◌, arith}
use Rattle.std.specs.List.{flat_map, range_with_len}
use Rattle.group_plan.specs.Plans.{PlanView}
use Rattle.run_rows.specs.Report.{Row}
use Rattle.totals_report.specs.declared.row.ReportRow.{ReportRow}
use Rattle.totals_report.specs.Reports.{group_rows, report_row, report_rows}

map-same : (f h : ℕ → ReportRow) (a n : ℕ) → ((r : ℕ) → r < a + n → f r ≡ h r) → map f (range_with_len a n) ≡ map h (range_with_len a n)
map-same f h a zero same = refl
map-same f h a (suc n) same =
    ap (λ row. row ∷ map f (range_with_len (a + 1) n)) (same a (omega arith)) ∙ ap (λ rows. h a ∷ rows) (map-same f h (a + 1) n (λ r lt. same r (omega arith)))

flat_map-same : (f h : ℕ → List ReportRow) (a n : ℕ) → ((g : ℕ) → g < a + n → f g ≡ h g) → flat_map f (range_with_len a n) ≡ flat_map h (range_with_len a n)
flat_map-same f h a zero same = refl
flat_map-same f h a (suc n) same =
    ap (λ rows. rows ++ flat_map f (range_with_len (a + 1) n)) (same a (omega arith)) ∙ ap (λ rows. h a ++ rows) (flat_map-same f h (a + 1) n (λ g lt. same g (omega arith)))

-- a report depends only on the rows of its plan's rounds
pub report_rows-same : (plan : PlanView) (first second : ℕ → ℕ → Row) → ((g r : ℕ) → g < length plan.groups → r < plan.rounds → first g r ≡ second g r) → report_rows plan first ≡ report_rows plan second
unfolding report_rows
report_rows-same plan first second same =
    flat_map-same (group_rows plan first) (group_rows plan second) 0 (length plan.groups)
    (λ g known. map-same (λ r. report_row plan g r (first g r)) (λ r. report_row plan g r (second g r)) 0 plan.rounds (λ r during. ap (report_row plan g r) (same g r (omega arith) (omega arith))))
