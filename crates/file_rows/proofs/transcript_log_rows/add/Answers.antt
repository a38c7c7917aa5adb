use Rattle.file_rows.proofs.transcript_log_rows.add.Goals as goal

pub push-requires-2-clause-fits : goal.push-requires-2-clause-fits
push-requires-2-clause-fits c = rw c.requires.plan c.requires.fits
