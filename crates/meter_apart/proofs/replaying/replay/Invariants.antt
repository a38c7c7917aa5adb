use Rattle.meter_apart.proofs.ReplayLemmas.{Followed}
use Rattle.meter_apart.proofs.replaying.replay.Given as goal

abbrev pub invariant-loop-at : goal.invariant-loop-at
invariant-loop-at l = Followed l.fn.keys l.lines l.at l.meter
