use Rattle.std.proofs.Common.{rules, [], ◌∷◌, false}
use Rattle.desk_outside.specs.declared.wire.WireStep.TheVariants.{Flushed}
use Rattle.head_end.specs.Journal.{passed}
use Rattle.apart_roles.specs.HeadEndStarts.{greeting}
use Rattle.apart_roles.proofs.StepLemmas.{does_behind, does_not}
use Rattle.apart_roles.proofs.head_end_start.welcome.Goals as goal

pub returns-in_err-flush : goal.returns-in_err-flush
returns-in_err-flush g c plan journal is =
    does_not (Flushed false ∷ []) (greeting plan (passed journal)) (g.W.Wire.view c.args.wire.now) (g.W.Wire.view c.flush.new.wire) c.in_err-flush.field-0.0 c.from_residual.result (search rules) (search rules)

pub returns : goal.returns
returns g c plan journal is =
    does_behind (Flushed false ∷ []) (greeting plan (passed journal)) (g.W.Wire.view c.args.wire.now) (g.W.Wire.view c.flush.new.wire) (g.W.Wire.view c.greet.new.wire) c.greet.result (search rules)
    (c.greet.ensures plan journal is)
