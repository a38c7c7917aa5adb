use Rattle.ideal_masks.proofs.ReplayLemmas.{Replaying}
use Rattle.ideal_masks.proofs.replay.replay_events.Given as goal

abbrev pub invariant-loop-at : goal.invariant-loop-at
invariant-loop-at l = Replaying l.fn.readings l.fn.transcript.entries l.at l.book
