-- What the calls of a link do to its copies.
use Rattle.std.specs.Prelude.{◌≡◌, ℕ, List, Vec, Result, Ok, Err}
use Rattle.std.specs.declared.alloc.Global.{Global}
use Rattle.std.specs.declared.alloc.AllocError.{AllocError}
use Rattle.lossy_link.specs.Arrivals.{Arrival, placed, posted, due_at, due_elsewhere}

-- the copies of a post are on their way, or all is as before
abbrev pub PostEnds : ℕ → List ℕ → List ℕ → List Arrival → List Arrival → Result (Unit {0}) AllocError → Type 0
PostEnds tick bytes fate before after (Ok done) = after ≡ posted tick bytes fate before
PostEnds tick bytes fate before after (Err lack) = after ≡ before

-- the copies due at the tick are handed out, each with the bytes of its post, or all is as before
abbrev pub DueEnds : ℕ → List Arrival → List Arrival → Result (Vec (List ℕ) Global) AllocError → Type 0
DueEnds tick before after (Ok several) = (several.items ≡ due_at tick before) × (after ≡ due_elsewhere tick before)
DueEnds tick before after (Err lack) = after ≡ before

-- one copy is on its way, or all is as before
abbrev pub AddEnds : Arrival → List Arrival → List Arrival → Result (Unit {0}) AllocError → Type 0
AddEnds a before after (Ok done) = after ≡ placed a before
AddEnds a before after (Err lack) = after ≡ before
