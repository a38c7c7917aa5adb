use Rattle.std.proofs.Common.{◌≡◌, ◌<◌, ◌∙◌, sym, ap, length, map, List, ℕ, arith}
use Rattle.std.specs.Prelude.{slice_index_or}
use Rattle.std.proofs.lemmas.Bool.Decides.{nat_tests}
use Rattle.missing_round.specs.Sets.{less}
use Rattle.group_plan.specs.Plans.{PlanView, members}
use Rattle.group_plan.specs.NewPlans.{stated}
use Rattle.group_book.specs.declared.answers.Outcome.{Outcome}
use Rattle.totals_report.specs.declared.row.RowOutcome.{RowOutcome}
use Rattle.totals_report.specs.declared.row.ReportRow.{ReportRow}
use Rattle.totals_report.specs.Books.{outcome_of_state, row_in}
use Rattle.totals_report.specs.Reports.{survivors_of}
use Rattle.totals_report.proofs.BookLemmas.{name_stated, row_outcome_is, row_survivors}
use Rattle.totals_report.proofs.book.row_of.Goals as goal

same_row : {name names missing missed : List ℕ} {round survivors counted : ℕ} {outcome state : RowOutcome} → name ≡ names → survivors ≡ counted → missing ≡ missed → outcome ≡ state
    → ◌≡◌ {A = ReportRow} (record { name = name; round = round; survivors = survivors; missing = missing; outcome = outcome }) (record { name = names; round = round; survivors = counted; missing = missed; outcome = state })
same_row a b d e = cc

pub returns : goal.returns
returns c = λ b is.
    let plan = c.args.plan.now in
    let g = c.args.group in
    let r = c.args.round in
    let known : g < length plan.groups = grind (arith, nat_tests, c.requires) in
    let survivors : c.args.outcome.survivors ≡ survivors_of (row_in b g r) = ap (λ (o : Outcome). o.survivors) is ∙ sym (row_survivors b g r) in
    let name = ap (λ gs. (slice_index_or gs g c.index-groups-group.result).name) c.groups.ensures.groups ∙ name_stated plan.groups g c.index-groups-group.result known in
    same_row name (c.len.ensures ∙ ap length survivors)
    (c.minus.ensures ∙ ap (λ m. less m c.args.outcome.survivors) c.members.ensures ∙ ap (less (members plan.groups g r)) survivors)
    (c.outcome_of_state.ensures ∙ ap (λ (o : Outcome). outcome_of_state o.state) is ∙ sym (row_outcome_is b g r))
