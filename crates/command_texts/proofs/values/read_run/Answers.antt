use Rattle.std.proofs.Common.{ℕ, List, subst}
use Rattle.plan_files.specs.PlanFiles.{view_of}
use Rattle.command_texts.specs.Refusals.{ReadingsRefused}
use Rattle.command_texts.proofs.RunLemmas.{readings_refuse}
use Rattle.command_texts.proofs.values.read_run.Goals as goal

pub returns-in-Err-readings_in-clause-refused : goal.returns-in-Err-readings_in-clause-refused
returns-in-Err-readings_in-clause-refused g c =
    readings_refuse _ c.args.plan.now c.args.readings.now c.args.plan_bytes.items c.args.readings_bytes.items (view_of c.in-Ok.value.0) _ _ c.in-Ok.ensures.value c.in-Ok.ensures.lanes.0
    (subst (λ (bytes : List ℕ). ReadingsRefused c.args.readings.now c.in-Ok.value.0.plan bytes c.in-Err-readings_in.outcome) c.deref.ensures.value c.in-Err-readings_in.ensures.refused)
