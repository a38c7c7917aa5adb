use Rattle.std.proofs.Common.{◌<◌, ◌^◌, ◌∙◌, sym, subst, length}
use Rattle.group_plan.specs.Plans.{IsWithinLimits}
use Rattle.totals_report.specs.Books.{row_in}
use Rattle.audit_check.specs.Ends.{RowsEnd}
use Rattle.audit_check.proofs.EndLemmas.{few_rows, rows_held, audited}
use Rattle.audit_check.proofs.auditing.judge.Goals as goal

pub confirm-requires : goal.confirm-requires
confirm-requires c =
    let b = c.args.rounds.now in
    subst (λ rows. length rows < 2 ^ 31) (sym (c.deref.ensures.value ∙ c.in_ok-rows.ensures)) (few_rows b.presence.plan (row_in b) (subst IsWithinLimits c.plan.ensures c.rounds-rounds.ensures.limits))

pub returns : goal.returns
returns c = λ t is.
    let b = c.args.rounds.now in
    audited t b c.deref.result.now c.args.report.now c.confirm.result is (c.deref.ensures.value ∙ c.in_ok-rows.ensures ∙ rows_held t b is.holds)
    (subst (λ rows. RowsEnd c.deref.result.now rows c.confirm.result) c.rows.ensures c.confirm.ensures)
