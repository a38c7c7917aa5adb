use Rattle.std.proofs.Common.{◌≡◌, Ok, ap, sym, ◌∙◌, rules}
use Rattle.plan_files.specs.PlanFiles.{plan_of, view_of}
use Rattle.command_texts.proofs.values.fit_plan.Goals as goal

pub returns : goal.returns
returns g c =
    let is : plan_of c.args.bytes.items ≡ Ok (view_of c.in-Ok.value) = ap plan_of (sym c.deref.ensures.value) ∙ c.in-Ok.ensures.value in
    record { value = tt; keys = tt; lanes = tt; refused = search rules; no_fault = λ none. none }
