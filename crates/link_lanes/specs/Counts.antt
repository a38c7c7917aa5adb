-- Lanes and spans, and how far their counts have come.
use Rattle.std.specs.Prelude.{ℕ, Bool, true, ◌&&◌, nat_le, List, [], ◌∷◌}
use Rattle.link_lanes.specs.Lanes.{Meaning, Slot}

-- a lane that hangs for this span of ticks
abbrev pub slot : Meaning → ℕ → ℕ → Slot
slot m from to = record { lane = m; from = from; to = to }

-- no lane has counted more
abbrev pub are_up_to : ℕ → List Slot → Bool
are_up_to n [] = true
are_up_to n (s ∷ slots) = nat_le s.lane.count n && are_up_to n slots
