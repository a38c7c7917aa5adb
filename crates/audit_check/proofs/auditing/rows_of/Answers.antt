use Rattle.std.proofs.Common.{rules, arith, ◌≡◌, ◌++◌, ◌∙◌, ap, length}
use Rattle.std.proofs.lemmas.List.{length-map}
use Rattle.std.specs.List.{flat_map, range_with_len}
use Rattle.group_plan.specs.Plans.{PlanView}
use Rattle.group_plan.specs.NewPlans.{stated}
use Rattle.totals_report.specs.Books.{row_in}
use Rattle.totals_report.specs.Reports.{group_rows, report_rows}
use Rattle.totals_report.proofs.BookLemmas.{group_more}
use Rattle.audit_check.proofs.auditing.rows_of.Goals as goal

pub loop-group-preserved : goal.loop-group-preserved
loop-group-preserved c =
    let b = c.args.rounds.now in
    let pushed : c.push_group.new.rows.items ≡ c.loop-group.rows.items ++ group_rows b.presence.plan (row_in b) c.loop-group.group = search rules in
    group_more (group_rows b.presence.plan (row_in b)) c.loop-group.group c.loop-group.rows.items _ c.loop-group.invariant pushed

pub returns : goal.returns
unfolding report_rows
returns c =
    let b = c.args.rounds.now in
    let long = ap length c.groups-group-end.ensures.groups ∙ length-map c.plan.result.now.groups stated ∙ ap (λ (p : PlanView). length p.groups) c.plan.ensures in
    let all : c.loop-group.group ≡ length b.presence.plan.groups = omega (arith, long) in
    c.loop-group.invariant ∙ ap (λ n. flat_map (group_rows b.presence.plan (row_in b)) (range_with_len 0 n)) all
