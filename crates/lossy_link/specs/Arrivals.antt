-- Copies of frames on their way.
use Rattle.std.specs.Prelude.{ℕ, ◌+◌, ◌==◌, nat_le, not, if◌then◌else◌, List, [], ◌∷◌, map, filter}

-- a copy on its way: the tick at which it is due, and the bytes of its post
pub record Arrival : Type 0 where
  pub tick : ℕ
  pub bytes : List ℕ

abbrev pub arrival : ℕ → List ℕ → Arrival
arrival tick bytes = record { tick = tick; bytes = bytes }

-- a copy behind those that are due as early
abbrev pub placed : Arrival → List Arrival → List Arrival
placed a [] = a ∷ []
placed a (b ∷ rest) = if nat_le b.tick a.tick then b ∷ placed a rest else a ∷ b ∷ rest

-- one copy for each delay, after a post at this tick
abbrev pub posted : ℕ → List ℕ → List ℕ → List Arrival → List Arrival
posted tick bytes [] copies = copies
posted tick bytes (delay ∷ delays) copies = posted tick bytes delays (placed (arrival (tick + delay) bytes) copies)

-- the bytes of the copies due at a tick
abbrev pub due_at : ℕ → List Arrival → List (List ℕ)
due_at tick copies = map (λ a. a.bytes) (filter (λ a. a.tick == tick) copies)

-- the copies due at other ticks
abbrev pub due_elsewhere : ℕ → List Arrival → List Arrival
due_elsewhere tick copies = filter (λ a. not (a.tick == tick)) copies
