use Rattle.std.proofs.Common.{rules, [], ◌∷◌, false}
use Rattle.desk_outside.specs.declared.wire.WireStep.TheVariants.{Appended, Emptied}
use Rattle.apart_roles.proofs.StepLemmas.{does_behind, does_not}
use Rattle.apart_roles.proofs.start.begin.Goals as goal

pub returns-in_err-empty : goal.returns-in_err-empty
returns-in_err-empty g c =
    does_not (Emptied false ∷ []) (Appended c.args.head.now false ∷ []) (g.W.Wire.view c.args.wire.now) (g.W.Wire.view c.empty.new.wire) c.in_err-empty.field-0.0 c.from_residual.result (search rules) (search rules)

pub returns : goal.returns
returns g c =
    does_behind (Emptied false ∷ []) (Appended c.args.head.now false ∷ []) (g.W.Wire.view c.args.wire.now) (g.W.Wire.view c.empty.new.wire) (g.W.Wire.view c.append.new.wire) c.append.result (search rules) c.append.ensures
