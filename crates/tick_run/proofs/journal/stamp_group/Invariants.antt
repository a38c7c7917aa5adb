use Rattle.tick_run.proofs.JournalLemmas.{Stamping}
use Rattle.tick_run.proofs.journal.stamp_group.Given as goal

abbrev pub invariant-loop-at : goal.invariant-loop-at
invariant-loop-at l = Stamping l.tick l.at l.frames l.fates l.fn.transcript l.transcript
