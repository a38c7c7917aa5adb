use Rattle.std.proofs.Common.{◌*◌, ◌∙◌, ap, length}
use Rattle.std.proofs.lemmas.List.{length-map}
use Rattle.std.specs.List.{count_by}
use Rattle.group_plan.specs.Plans.{PlanView}
use Rattle.group_plan.specs.NewPlans.{stated}
use Rattle.run_rows.specs.Summary.{is_sending, is_taking}
use Rattle.totals_report.specs.declared.row.ReportRow.{ReportRow}
use Rattle.totals_report.specs.Counts.{is_lacking, is_thin, is_total}
use Rattle.totals_report.proofs.BookLemmas.{summary_counted}
use Rattle.totals_report.proofs.book.summary.Goals as goal

pub returns : goal.returns
returns c =
    let b = c.args.book.now in
    let plan = c.plan-plan.ensures in
    let outcomes = c.count_outcomes-outcomes in
    let lines = c.count_lines-sends in
    let long = ap length c.groups.ensures.groups ∙ length-map c.plan-plan.result.now.groups stated ∙ ap (λ (p : PlanView). length p.groups) plan in
    let rounds = c.from.ensures ∙ c.rounds.ensures.rounds ∙ ap (λ (p : PlanView). p.rounds) plan in
    let all = ap (λ n. n * c.from.result) long ∙ ap (λ n. length b.presence.plan.groups * n) rounds in
    let e = summary_counted b c.in_ok-report.report _ _ _ _ _ _ c.in_ok-report.ensures.rows all
    (outcomes.ensures.totals ∙ ap (count_by (λ (row : ReportRow). is_total row.outcome)) c.rows.ensures)
    (outcomes.ensures.nones ∙ ap (count_by (λ (row : ReportRow). is_lacking row.outcome)) c.rows.ensures)
    (outcomes.ensures.thins ∙ ap (count_by (λ (row : ReportRow). is_thin row.outcome)) c.rows.ensures)
    (lines.ensures.sends ∙ ap (count_by is_sending) c.journal.ensures.lines)
    (lines.ensures.takes ∙ ap (count_by is_taking) c.journal.ensures.lines) in
    rw e at c.summary_line.ensures
