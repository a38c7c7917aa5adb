use Rattle.std.proofs.Common.{[], ◌∷◌}
use Rattle.link_lanes.specs.Counts.{slot}
use Rattle.link_lanes.proofs.AskLemmas.{Asked}
use Rattle.link_lanes.proofs.rack.ask_all.Given as goal

-- the lanes before the index have been asked
abbrev pub invariant-loop-at : goal.invariant-loop-at
invariant-loop-at g l =
    Asked (λ h. slot ((goal.Lane-dyn g (h.lane.vtable, h.lane.value)).meaning h.lane.value) h.from h.to) l.tick l.tag (1 ∷ []) l.at l.hung.items l.fn.hung.items l.fate
