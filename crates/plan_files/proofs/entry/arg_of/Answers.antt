use Rattle.std.proofs.Common.{refl}
use Rattle.plan_files.specs.PlanRows.{arg_in}
use Rattle.plan_files.proofs.FormLemmas.{no_argument}
use Rattle.plan_files.proofs.entry.arg_of.Goals as goal

pub returns-in-Err-Byte : goal.returns-in-Err-Byte
unfolding arg_in
returns-in-Err-Byte c = rw (no_argument c.args.text.now c.in-Err-Byte.field-0 c.in-Err-Byte.field-0-0 c.in-Err-Byte.field-0-is c.in-Err-Byte.ensures) refl
