use Rattle.std.proofs.Common.{◌≡◌, Err, refl, rules, subst, sym}
use Rattle.plan_files.specs.PlanFiles.{Opened, PlanEnds, opened_from, plan_from, with_entries}
use Rattle.plan_files.specs.RowsLeft.{rows_left}
use Rattle.plan_files.specs.declared.form.PlanForm.TheVariants.{Whole}
use Rattle.plan_files.proofs.PlanLemmas.{fails}
use Rattle.plan_files.proofs.plan.plan_from.Goals as goal

pub returns-in_err-plan-clause-file : goal.returns-in_err-plan-clause-file
unfolding plan_from
returns-in_err-plan-clause-file c =
    let rows = rows_left c.args.rows.now in
    let error = c.in_err-plan.field-0.0 in
    let wrong = fails (opened_from Whole rows) (λ (o : Opened). with_entries o.plan o.first o.entries) error c.in_err-plan.ensures.opened in
    let answered : Err error ≡ c.from_residual.result = search rules in
    subst (λ r. PlanEnds (plan_from rows) r) answered wrong

pub returns-clause-file : goal.returns-clause-file
unfolding plan_from
returns-clause-file c =
    let rows = rows_left c.args.rows.now in
    let o = c.in_ok-plan.field-0 in
    let same : plan_from rows ≡ with_entries o.plan o.first o.entries.items = rw c.in_ok-plan.ensures.opened refl in
    subst (λ v. PlanEnds v c.with_entries.result) (sym same) c.with_entries.ensures.file
