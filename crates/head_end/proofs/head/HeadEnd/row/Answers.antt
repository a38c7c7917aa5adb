use Rattle.std.proofs.Common.{◌≡◌, ◌<◌, ◌∙◌, sym, ap, length, map, List, ℕ}
use Rattle.std.specs.Prelude.{slice_index_or}
use Rattle.missing_round.specs.Sets.{less}
use Rattle.group_plan.specs.Plans.{PlanView, members}
use Rattle.group_plan.specs.NewPlans.{stated}
use Rattle.group_book.proofs.PlaceLemmas.{in_round}
use Rattle.totals_report.specs.declared.row.RowOutcome.{RowOutcome}
use Rattle.totals_report.specs.declared.row.ReportRow.{ReportRow}
use Rattle.totals_report.specs.Reports.{survivors_of}
use Rattle.totals_report.proofs.BookLemmas.{name_stated}
use Rattle.head_end.specs.Lines.{row_in}
use Rattle.head_end.proofs.LineLemmas.{row_survivors}
use Rattle.head_end.proofs.head.HeadEnd.row.Goals as goal

same_row : {name names missing missed : List ℕ} {round survivors counted : ℕ} {outcome state : RowOutcome} → name ≡ names → survivors ≡ counted → missing ≡ missed → outcome ≡ state
    → ◌≡◌ {A = ReportRow} (record { name = name; round = round; survivors = survivors; missing = missing; outcome = outcome }) (record { name = names; round = round; survivors = counted; missing = missed; outcome = state })
same_row a b d e = cc

pub returns : goal.returns
returns c = λ journal after.
    let plan = c.args.self.now.plan in
    let g = c.args.group in
    let r = c.args.round in
    let known : g < length plan.groups = (in_round plan g r c.requires).0 in
    let survivors : c.survivors-survivors.result ≡ survivors_of (row_in plan journal g r) = c.survivors-survivors.ensures journal after ∙ sym (row_survivors plan journal g r) in
    let name = ap (λ gs. (slice_index_or gs g c.index-groups-group.result).name) (c.groups.ensures.groups ∙ ap (λ (p : PlanView). map stated p.groups) c.plan-plan.ensures) ∙ name_stated plan.groups g c.index-groups-group.result known in
    same_row name (c.len.ensures ∙ ap length survivors)
    (c.minus.ensures ∙ ap (λ m. less m c.survivors-survivors.result) (c.members.ensures ∙ ap (λ (p : PlanView). members p.groups g r) c.plan-plan.ensures) ∙ ap (less (members plan.groups g r)) survivors)
    (c.outcome.ensures journal after)
