-- Masks between neighbours alone: each group is a ring of its meters, by number, and its last meter is followed by its first.
use Rattle.std.specs.Prelude.{ℕ, ◌+◌, ◌-◌, ◌==◌, nat_lt, nat_le, Bool, not, ◌&&◌, ◌||◌, List, if◌then◌else◌}
use Rattle.missing_round.specs.Masks.{Masks}
use Rattle.group_plan.specs.Plans.{Group, size}

-- how many places it is from one meter to another, not over the ring's end
abbrev pub apart : ℕ → ℕ → ℕ
apart i j = if nat_lt i j then j - i else i - j

-- two meters of a group of n are neighbours of width w where it is at most w places from one to the other, over the ring's end or not
abbrev pub are_neighbours : ℕ → ℕ → ℕ → ℕ → Bool
are_neighbours w n i j = not (i == j) && (nat_le (apart i j) w || nat_le n (apart i j + w))

-- the ring masks of width w: those of m, but each pair word is 0 whose ends aren't neighbours
abbrev pub ring : ℕ → List Group → Masks → Masks
ring w groups m = record {
  own = m.own;
  pair = λ g r i j. if are_neighbours w (size groups g) i j then m.pair g r i j else 0;
}
