use Rattle.head_end.proofs.ReplayLemmas.{Followed}
use Rattle.head_end.proofs.replaying.replay.Given as goal

abbrev pub invariant-loop-at : goal.invariant-loop-at
invariant-loop-at l = Followed l.plan l.lines l.at l.head
