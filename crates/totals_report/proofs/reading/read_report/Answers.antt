use Rattle.std.proofs.Common.{◌≡◌, Ok}
use Rattle.totals_report.specs.Reading.{rows_of_text}
use Rattle.totals_report.proofs.FaultLaws.{reading_ends}
use Rattle.totals_report.proofs.ReportLaws.{report_again}
use Rattle.totals_report.proofs.reading.read_report.Goals as goal

pub returns-clause-ends : goal.returns-clause-ends
returns-clause-ends c = reading_ends c.args.bytes.now c.read.result c.read.ensures

pub returns-clause-only : goal.returns-clause-only
returns-clause-only c = λ rows are text.
    let is : rows_of_text c.args.bytes.now ≡ Ok rows = report_again c.args.bytes.now rows are text in
    rw is at c.read.ensures
