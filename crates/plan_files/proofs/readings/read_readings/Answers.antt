use Rattle.std.proofs.Common.{◌≡◌, Some, rules}
use Rattle.std.specs.Result.{result_err}
use Rattle.plan_files.proofs.TableLemmas.{one_long, one_register, readings_fail, single_table}
use Rattle.plan_files.proofs.readings.read_readings.Goals as goal

pub returns-in_err-tables : goal.returns-in_err-tables
returns-in_err-tables c =
    let fault = c.in_err-tables.field-0.0 in
    let answered : Some fault ≡ result_err c.from_residual.result = search rules in
    readings_fail c.args.plan.now c.args.bytes.now fault c.from_residual.result answered c.in_err-tables.ensures.fault

pub returns-in-Some : goal.returns-in-Some
returns-in-Some c =
    let plan = c.args.plan.now in
    let bytes = c.args.bytes.now in
    let tables = c.in_ok-tables.tables.items in
    let read = c.in_ok-tables.ensures.read in
    one_register plan bytes tables c.in-Some.readings read (single_table tables c.pop.new.self.items c.in-Some.readings c.in-Some.ensures.items (one_long plan bytes tables read))
