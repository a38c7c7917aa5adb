use Rattle.std.proofs.Common.{rules, ◌≡◌, ◌++◌, ◌∷◌, [], ap, ◌∙◌}
use Rattle.group_plan.specs.Plans.{PlanView}
use Rattle.totals_report.specs.Books.{row_in}
use Rattle.totals_report.specs.Reports.{report_row}
use Rattle.totals_report.proofs.BookLemmas.{round_more}
use Rattle.audit_check.proofs.auditing.push_group.Goals as goal

pub loop-round-preserved : goal.loop-round-preserved
loop-round-preserved c =
    let b = c.args.rounds.now in
    let pushed : c.push.new.self.items ≡ c.loop-round.rows.items ++ c.row_of.result ∷ [] = search rules in
    round_more (λ r. report_row b.presence.plan c.args.group r (row_in b c.args.group r)) c.loop-round.round c.loop-round.rows.items c.args.rows.now.items _ c.row_of.result c.loop-round.invariant pushed (c.row_of.ensures b c.outcome-outcome.ensures ∙ ap (λ (p : PlanView). report_row p c.args.group c.loop-round.round (row_in b c.args.group c.loop-round.round)) c.plan-in-loop-round.ensures)
