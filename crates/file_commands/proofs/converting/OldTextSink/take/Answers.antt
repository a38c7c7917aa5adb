use Rattle.transcript_text.specs.declared.version.Version.TheVariants.{One}
use Rattle.file_commands.proofs.converting.OldTextSink.take.Goals as goal

pub returns : goal.returns
returns g c = λ taken had. (had.0, c.in_ok-take.ensures One taken had.1)
