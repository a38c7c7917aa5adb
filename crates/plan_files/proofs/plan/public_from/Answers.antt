use Rattle.std.proofs.Common.{◌≡◌, ◌∙◌, Err, ap, refl, rules, subst, sym}
use Rattle.plan_files.specs.Faults.{Ends}
use Rattle.plan_files.specs.Gathering.{spans_of}
use Rattle.plan_files.specs.PlanFiles.{Opened, opened_from, public_from, with_members}
use Rattle.plan_files.specs.RowsLeft.{rows_left}
use Rattle.plan_files.specs.declared.form.PlanForm.TheVariants.{Public}
use Rattle.plan_files.proofs.PlanLemmas.{fails}
use Rattle.plan_files.proofs.plan.public_from.Goals as goal

pub returns-in_err-plan : goal.returns-in_err-plan
unfolding public_from
returns-in_err-plan c =
    let rows = rows_left c.args.rows.now in
    let error = c.in_err-plan.field-0.0 in
    let wrong = fails (opened_from Public rows) (λ (o : Opened). with_members o.plan o.first (spans_of o.entries)) error c.in_err-plan.ensures.opened in
    let answered : Err error ≡ c.from_residual.result = search rules in
    subst (λ r. Ends (public_from rows) r) answered wrong

pub returns : goal.returns
unfolding public_from
returns c =
    let rows = rows_left c.args.rows.now in
    let o = c.in_ok-plan.field-0 in
    let opened : public_from rows ≡ with_members o.plan o.first (spans_of o.entries.items) = rw c.in_ok-plan.ensures.opened refl in
    let same = opened ∙ ap (λ es. with_members o.plan o.first (spans_of es)) (sym c.deref.ensures.value) in
    subst (λ v. Ends v c.with_members.result) (sym same) c.with_members.ensures
