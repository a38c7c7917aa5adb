use Rattle.std.proofs.Common.{◌≡◌, ◌∙◌, Err, IfErr, rules, subst, sym}
use Rattle.plan_files.specs.Faults.{Fails}
use Rattle.plan_files.specs.RowsLeft.{rows_left}
use Rattle.plan_files.specs.declared.fault.Failed.TheVariants.{Fault}
use Rattle.meter_files.specs.PartRows.{head_of}
use Rattle.meter_files.proofs.PartLemmas.{no_home, no_rounds, no_self, no_title, whole_head}
use Rattle.meter_files.proofs.part_file.read_head.Goals as goal

pub returns-in_err-due_title-clause-fault : goal.returns-in_err-due_title-clause-fault
returns-in_err-due_title-clause-fault c =
    let rows = rows_left c.args.rows.now in
    let fault = c.in_err-due_title.field-0.0 in
    let wrong = no_title rows fault (sym c.in_err-due_title.was ∙ c.due_title.ensures) in
    let answered : Err (Fault fault) ≡ c.from_residual.result = search rules in
    subst (λ r. IfErr r (λ failed. Fails (head_of rows) failed)) answered wrong

pub returns-in_err-rounds-clause-fault : goal.returns-in_err-rounds-clause-fault
returns-in_err-rounds-clause-fault c =
    let rows = rows_left c.args.rows.now in
    let fault = c.in_err-rounds.field-0.0 in
    let wrong = no_rounds rows (rows_left c.advance.new.self) fault (sym c.in_ok-due_title.was ∙ c.due_title.ensures) c.in_ok-advance.ensures.rows (sym c.in_err-rounds.was ∙ c.due_rounds.ensures) in
    let answered : Err (Fault fault) ≡ c.from_residual-in_err-rounds.result = search rules in
    subst (λ r. IfErr r (λ failed. Fails (head_of rows) failed)) answered wrong

pub returns-in_err-home-clause-fault : goal.returns-in_err-home-clause-fault
returns-in_err-home-clause-fault c =
    let rows = rows_left c.args.rows.now in
    let fault = c.in_err-home.field-0.0 in
    let wrong = no_home rows (rows_left c.advance.new.self) (rows_left c.advance-2.new.self) c.in_ok-rounds.rounds fault (sym c.in_ok-due_title.was ∙ c.due_title.ensures) c.in_ok-advance.ensures.rows (sym c.in_ok-rounds.was ∙ c.due_rounds.ensures) c.in_ok-advance-2.ensures.rows (sym c.in_err-home.was ∙ c.due_home.ensures) in
    let answered : Err (Fault fault) ≡ c.from_residual-in_err-home.result = search rules in
    subst (λ r. IfErr r (λ failed. Fails (head_of rows) failed)) answered wrong

pub returns-in_err-meter-clause-fault : goal.returns-in_err-meter-clause-fault
returns-in_err-meter-clause-fault c =
    let rows = rows_left c.args.rows.now in
    let fault = c.in_err-meter.field-0.0 in
    let wrong = no_self rows (rows_left c.advance.new.self) (rows_left c.advance-2.new.self) (rows_left c.advance-3.new.self) c.in_ok-rounds.rounds c.in_ok-home.home fault (sym c.in_ok-due_title.was ∙ c.due_title.ensures) c.in_ok-advance.ensures.rows (sym c.in_ok-rounds.was ∙ c.due_rounds.ensures) c.in_ok-advance-2.ensures.rows (sym c.in_ok-home.was ∙ c.due_home.ensures) c.in_ok-advance-3.ensures.rows (sym c.in_err-meter.was ∙ c.due_self.ensures) in
    let answered : Err (Fault fault) ≡ c.from_residual-in_err-meter.result = search rules in
    subst (λ r. IfErr r (λ failed. Fails (head_of rows) failed)) answered wrong

pub returns-clause-read : goal.returns-clause-read
returns-clause-read c =
    whole_head (rows_left c.args.rows.now) (rows_left c.advance.new.self) (rows_left c.advance-2.new.self) (rows_left c.advance-3.new.self) c.in_ok-rounds.rounds c.in_ok-home.home c.in_ok-meter.meter
    (sym c.in_ok-due_title.was ∙ c.due_title.ensures) c.in_ok-advance.ensures.rows (sym c.in_ok-rounds.was ∙ c.due_rounds.ensures) c.in_ok-advance-2.ensures.rows (sym c.in_ok-home.was ∙ c.due_home.ensures) c.in_ok-advance-3.ensures.rows (sym c.in_ok-meter.was ∙ c.due_self.ensures)
