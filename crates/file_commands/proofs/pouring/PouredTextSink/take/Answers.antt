use Rattle.transcript_text.specs.declared.version.Version.TheVariants.{Two}
use Rattle.file_commands.proofs.pouring.PouredTextSink.take.Goals as goal

pub returns : goal.returns
returns g c = λ taken had. (had.0, c.in_ok-take.ensures Two taken had.1)
