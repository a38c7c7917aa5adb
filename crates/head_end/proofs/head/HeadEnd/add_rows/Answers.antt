use Rattle.totals_report.specs.Reports.{report_row}
use Rattle.head_end.specs.Lines.{row_in}
use Rattle.head_end.proofs.LineLemmas.{one_more}
use Rattle.head_end.proofs.head.HeadEnd.add_rows.Goals as goal

pub loop-round-preserved : goal.loop-round-preserved
loop-round-preserved c = λ journal after.
    one_more (λ r. report_row c.args.self.now.plan c.args.group r (row_in c.args.self.now.plan journal c.args.group r)) c.loop-round.round c.args.rows.now.items c.loop-round.rows.items c.push.new.self.items c.row.result
    (c.loop-round.invariant journal after) c.in_ok-push.ensures.items (c.row.ensures journal after)
