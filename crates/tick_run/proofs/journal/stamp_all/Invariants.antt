use Rattle.tick_run.proofs.JournalLemmas.{StampingAll}
use Rattle.tick_run.proofs.journal.stamp_all.Given as goal

abbrev pub invariant-loop-group : goal.invariant-loop-group
invariant-loop-group l = StampingAll l.tick l.group-index l.groups l.fn.transcript l.transcript
