use Rattle.std.proofs.Common.{rules, [], ◌∷◌, false}
use Rattle.desk_outside.specs.declared.wire.WireStep.TheVariants.{Said}
use Rattle.apart_lines.specs.declared.said.MeterSays.TheVariants.{Ready}
use Rattle.apart_lines.specs.Said.{meter_text}
use Rattle.apart_roles.specs.Steps.{said_steps}
use Rattle.apart_roles.proofs.StepLemmas.{does_behind, does_not}
use Rattle.apart_roles.proofs.meter_start.greet.Goals as goal

pub returns-in_err-print : goal.returns-in_err-print
returns-in_err-print g c =
    does_not (Said (10 ∷ []) false ∷ []) (said_steps (meter_text Ready)) (g.W.Wire.view c.args.wire.now) (g.W.Wire.view c.print.new.wire) c.in_err-print.field-0.0 c.from_residual.result (search rules) (search rules)

pub returns : goal.returns
returns g c =
    does_behind (Said (10 ∷ []) false ∷ []) (said_steps (meter_text Ready)) (g.W.Wire.view c.args.wire.now) (g.W.Wire.view c.print.new.wire) (g.W.Wire.view c.say.new.wire) c.say.result (search rules) c.say.ensures
