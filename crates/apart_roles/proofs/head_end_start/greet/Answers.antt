use Rattle.std.proofs.Common.{rules, ap, [], ◌∷◌, ◌∙◌, false}
use Rattle.desk_outside.specs.declared.wire.WireStep.TheVariants.{Said}
use Rattle.head_end.specs.Journal.{passed}
use Rattle.apart_lines.specs.declared.said.HeadEndSays.TheVariants.{Ready}
use Rattle.apart_lines.specs.Said.{head_end_text}
use Rattle.apart_roles.specs.Steps.{said_steps}
use Rattle.apart_roles.proofs.HeadEndTurnLemmas.{told_as}
use Rattle.apart_roles.proofs.StepLemmas.{does_behind, does_not}
use Rattle.apart_roles.proofs.head_end_start.greet.Goals as goal

pub returns-in_err-print : goal.returns-in_err-print
returns-in_err-print g c plan journal is =
    does_not (Said (10 ∷ []) false ∷ []) (said_steps (head_end_text plan (Ready (passed journal)))) (g.W.Wire.view c.args.wire.now) (g.W.Wire.view c.print.new.wire) c.in_err-print.field-0.0 c.from_residual.result
    (search rules) (search rules)

pub returns : goal.returns
returns g c plan journal is =
    does_behind (Said (10 ∷ []) false ∷ []) (said_steps (head_end_text plan (Ready (passed journal)))) (g.W.Wire.view c.args.wire.now) (g.W.Wire.view c.print.new.wire) (g.W.Wire.view c.tell.new.wire) c.tell.result
    (search rules)
    (told_as c.plan.result.now plan (Ready c.ticks.result) (Ready (passed journal)) (g.W.Wire.view c.print.new.wire) (g.W.Wire.view c.tell.new.wire) c.tell.result (c.plan.ensures ∙ is.plan_is)
    (ap Ready (c.ticks.ensures journal is.after)) c.tell.ensures)
