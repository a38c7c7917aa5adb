use Rattle.std.proofs.Common.{length}
use Rattle.plan_files.specs.KeptRows.{rows_in}
use Rattle.plan_files.specs.WrittenKeys.{AddsRows}
use Rattle.plan_files.specs.declared.form.PlanForm.TheVariants.{Whole}
use Rattle.plan_files.proofs.key_row.take_keys.Given as goal

-- the rows so far are added
abbrev pub invariant-loop-entry : goal.invariant-loop-entry
invariant-loop-entry l = AddsRows Whole (rows_in l.fn.bytes) (rows_in l.left) l.fn.entries.items l.entries.items

abbrev pub decreases-loop-entry : goal.decreases-loop-entry
decreases-loop-entry l = length l.left
