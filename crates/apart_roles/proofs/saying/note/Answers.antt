use Rattle.std.proofs.Common.{rules, [], ◌∷◌, false}
use Rattle.transcript_text.specs.Spelling.{ended}
use Rattle.desk_outside.specs.declared.wire.WireStep.TheVariants.{Appended, Flushed}
use Rattle.apart_lines.specs.Journals.{noted_text}
use Rattle.apart_roles.proofs.StepLemmas.{does_behind, does_not}
use Rattle.apart_roles.proofs.saying.note.Goals as goal

pub returns-in_err-append : goal.returns-in_err-append
returns-in_err-append g c =
    does_not (Appended (ended (noted_text c.args.line.now)) false ∷ []) (Flushed false ∷ []) (g.W.Wire.view c.args.wire.now) (g.W.Wire.view c.append.new.wire) c.in_err-append.field-0.0 c.from_residual.result
    (search rules) (search rules)

pub returns : goal.returns
returns g c =
    does_behind (Appended (ended (noted_text c.args.line.now)) false ∷ []) (Flushed false ∷ []) (g.W.Wire.view c.args.wire.now) (g.W.Wire.view c.append.new.wire) (g.W.Wire.view c.flush.new.wire) c.flush.result
    (search rules) c.flush.ensures
