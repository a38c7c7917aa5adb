-- Loading an argument into a lane.
use Rattle.std.specs.Prelude.{◌≡◌, ℕ, true, false, List, Result, Ok, Err}
use Rattle.link_lanes.specs.declared.lane.LaneError.{LaneError}
use Rattle.link_lanes.specs.declared.lane.LaneError.TheVariants.{Refused, Memory}
use Rattle.link_lanes.specs.Lanes.{Meaning, loaded}

-- what a load makes of a lane m: loaded where the argument passes its test, and else as it was
abbrev pub LoadEnds : Meaning → List ℕ → Meaning → Result (Unit {0}) LaneError → Type 0
LoadEnds m arg n (Ok done) = (m.fits arg ≡ true) × (n ≡ loaded m arg)
LoadEnds m arg n (Err Refused) = (m.fits arg ≡ false) × (n ≡ m)
LoadEnds m arg n (Err Memory) = n ≡ m
