use Rattle.transcript_text.specs.declared.version.Version.TheVariants.{Two}
use Rattle.audit_check.proofs.judging.TextJudge.take.Goals as goal

pub returns : goal.returns
returns g c = λ before taken. c.in_ok-take.ensures Two before taken
