use Rattle.std.proofs.Common.{◌∙◌, sym, arith}
use Rattle.plan_files.specs.KeptRows.{fields_in}
use Rattle.plan_files.proofs.KeptLemmas.{has_long}
use Rattle.plan_files.proofs.entry.lane_row.Goals as goal

pub arg_field-requires-clause-long : goal.arg_field-requires-clause-long
arg_field-requires-clause-long c = let five = has_long 5 (fields_in c.args.row.now) _ (sym c.check_fields.ensures ∙ c.in_ok-check_fields.was) in omega (arith, five)
