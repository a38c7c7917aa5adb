use Rattle.sparse_masks.proofs.StretchLemmas.{Leads}
use Rattle.sparse_masks.proofs.round.Round.reach.Given as goal

abbrev pub invariant-loop-places : goal.invariant-loop-places
invariant-loop-places l = Leads l.self l.meter l.way l.reach l.places
