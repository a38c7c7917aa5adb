use Rattle.std.proofs.Common.{◌≡◌, ◌∙◌, subst, Vec, Global, ℕ, List}
use Rattle.totals_report.specs.declared.row.ReportRow.{ReportRow}
use Rattle.totals_report.specs.Books.{row_in}
use Rattle.totals_report.specs.Reports.{report_rows}
use Rattle.totals_report.specs.Rows.{AreRows}
use Rattle.totals_report.proofs.ReportLaws.{if_read_again}
use Rattle.totals_report.proofs.book.report.Goals as goal

pub returns-clause-read_again : goal.returns-clause-read_again
returns-clause-read_again c =
    let b = c.args.book.now in
    let rows : c.rows.result.now ≡ report_rows b.presence.plan (row_in b) = c.rows.ensures ∙ c.in_ok-report.ensures.rows in
    let P : List ReportRow → Type 0 = AreRows in
    let are = subst P c.in_ok-report.ensures.rows c.in_ok-report.ensures.form in
    if_read_again (λ (text : Vec ℕ Global). text.items) c.rows_text.result _ are (rw rows at c.rows_text.ensures)
