use Rattle.std.proofs.Common.{◌≡◌, ◌∙◌, Err, ap, sym, refl}
use Rattle.plan_files.specs.PlanFiles.{view_of}
use Rattle.plan_files.specs.Registers.{tables_of}
use Rattle.command_texts.proofs.RegisterLemmas.{tables_refused}
use Rattle.command_texts.proofs.registers.read_register_run.Goals as goal

pub returns : goal.returns
returns g c =
    let wrong : tables_of c.in-Ok.value.0.plan c.args.registers c.deref.result.now ≡ Err c.in-Err-Fault.fault = rw c.in-Err-Fault.field-0-is at c.in-Err-Fault.ensures in
    record {
      values = tt;
      keys = tt;
      posts = tt;
      room = tt;
      refused = (
        refl,
        tables_refused _ c.args.registers c.args.plan.items c.args.readings.items (view_of c.in-Ok.value.0) _ c.in-Err-Fault.fault c.in-Ok.ensures.value c.in-Ok.ensures.lanes.0
            (ap (tables_of c.in-Ok.value.0.plan c.args.registers) (sym c.deref.ensures.value) ∙ wrong),
      );
      no_fault = λ none. none;
    }
