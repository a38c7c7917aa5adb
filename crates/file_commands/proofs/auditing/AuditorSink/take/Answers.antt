use Rattle.file_commands.proofs.auditing.AuditorSink.take.Goals as goal

pub returns : goal.returns
returns g c = λ taken had. (had.0, c.in_ok-take.ensures taken had.1)
