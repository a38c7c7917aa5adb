use Rattle.std.proofs.Common.{◌≡◌, ◌∙◌, sym, subst, rules, Err, IfErr}
use Rattle.plan_files.specs.Faults.{Fails}
use Rattle.plan_files.specs.PlanForms.{head_of}
use Rattle.plan_files.specs.RowsLeft.{rows_left}
use Rattle.plan_files.specs.declared.fault.Failed.TheVariants.{Fault}
use Rattle.plan_files.proofs.FormLemmas.{no_rounds, no_version, no_windows, whole_head}
use Rattle.plan_files.proofs.head.read_head.Goals as goal

pub returns-in_err-check_first_row-clause-fault : goal.returns-in_err-check_first_row-clause-fault
returns-in_err-check_first_row-clause-fault c =
    let rows = rows_left c.args.rows.now in
    let error = c.in_err-check_first_row.field-0.0 in
    let wrong = no_version c.args.form rows error (sym c.check_first_row.ensures ∙ c.in_err-check_first_row.was) in
    let answered : Err (Fault error) ≡ c.from_residual.result = search rules in
    subst (λ r. IfErr r (λ failed. Fails (head_of c.args.form rows) failed)) answered wrong

pub returns-in_err-rounds-clause-fault : goal.returns-in_err-rounds-clause-fault
returns-in_err-rounds-clause-fault c =
    let rows = rows_left c.args.rows.now in
    let second = rows_left c.advance.new.self in
    let error = c.in_err-rounds.field-0.0 in
    let wrong = no_rounds c.args.form rows second error (sym c.check_first_row.ensures ∙ c.in_ok-check_first_row.was) c.in_ok-advance.ensures.rows (sym c.read_second_row.ensures ∙ c.in_err-rounds.was) in
    let answered : Err (Fault error) ≡ c.from_residual-in_err-rounds.result = search rules in
    subst (λ r. IfErr r (λ failed. Fails (head_of c.args.form rows) failed)) answered wrong

pub returns-in_err-windows-clause-fault : goal.returns-in_err-windows-clause-fault
returns-in_err-windows-clause-fault c =
    let rows = rows_left c.args.rows.now in
    let second = rows_left c.advance.new.self in
    let third = rows_left c.advance-2.new.self in
    let error = c.in_err-windows.field-0.0 in
    let wrong = no_windows c.args.form rows second third c.in_ok-rounds.rounds error (sym c.check_first_row.ensures ∙ c.in_ok-check_first_row.was) c.in_ok-advance.ensures.rows
    (sym c.read_second_row.ensures ∙ c.in_ok-rounds.was) c.in_ok-advance-2.ensures.rows (sym c.read_third_row.ensures ∙ c.in_err-windows.was) in
    let answered : Err (Fault error) ≡ c.from_residual-in_err-windows.result = search rules in
    subst (λ r. IfErr r (λ failed. Fails (head_of c.args.form rows) failed)) answered wrong

pub returns-clause-read : goal.returns-clause-read
returns-clause-read c =
    let rows = rows_left c.args.rows.now in
    let second = rows_left c.advance.new.self in
    let third = rows_left c.advance-2.new.self in
    whole_head c.args.form rows second third c.in_ok-rounds.rounds c.in_ok-windows.windows (sym c.check_first_row.ensures ∙ c.in_ok-check_first_row.was) c.in_ok-advance.ensures.rows
    (sym c.read_second_row.ensures ∙ c.in_ok-rounds.was) c.in_ok-advance-2.ensures.rows (sym c.read_third_row.ensures ∙ c.in_ok-windows.was)
