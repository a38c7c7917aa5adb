-- A head end that lies makes the meters act: it tells each of them what it likes, when it likes, and as often as it likes.
-- The meters keep to their rule. Each definition reads the past: the acts before a moment, the newest first.
use Rattle.std.specs.Prelude.{ℕ, Bool, false, not, ◌&&◌, ◌||◌, List, [], ◌∷◌, Option, Some, None, is_some, bytes_eq, if◌then◌else◌}
use Rattle.std.specs.Option.{option_or}
use Rattle.group_plan.specs.Tables.{is_same_place}
use Rattle.meter_core.specs.Meters.{MeterView, refusal_over}
use Rattle.event_schedule.specs.Schedule.{Shape, members_of, floor_of}

-- meter i of group g reads round r; or it is told that this set of meters is missing in the round
pub data Act : Type 0 where
  Read : (g r i : ℕ) → Act
  Tell : (g r i : ℕ) (set : List ℕ) → Act

-- ---- what a meter answers

-- the act is the reading of this place
abbrev pub is_reading : ℕ → ℕ → ℕ → Act → Bool
is_reading g r i (Read a b c) = is_same_place g r i a b c
is_reading g r i (Tell a b c set) = false

-- the meter read the round, where it has a reading, and sent it
abbrev pub has_read : Shape → ℕ → ℕ → ℕ → List Act → Bool
has_read s g r i [] = false
has_read s g r i (act ∷ before) = (is_reading g r i act && s.present g r i) || has_read s g r i before

-- what the rule of a meter goes by, besides what the meter keeps of each round: its number and the floor
abbrev pub meter_of : Shape → ℕ → ℕ → MeterView
meter_of s g i = record { meter = i; floor = floor_of s g; notes = [] }

-- by its rule the meter refuses no such set: the set is of members, without the meter itself, and it leaves as many as the floor
abbrev pub may_answer : Shape → ℕ → ℕ → ℕ → List ℕ → Bool
may_answer s g r i set = not (is_some (refusal_over (meter_of s g i) set (Some (members_of s g r))))

-- the set that an act makes the meter answer, where it answered none before
abbrev pub set_heard : Shape → ℕ → ℕ → ℕ → List Act → Act → Option (List ℕ)
set_heard s g r i before (Read a b c) = None
set_heard s g r i before (Tell a b c set) =
    if is_same_place g r i a b c && has_read s g r i before && may_answer s g r i set then Some set else None

-- the set that the meter answers in the round: the first that it is told after its reading and doesn't refuse
abbrev pub set_answered : Shape → ℕ → ℕ → ℕ → List Act → Option (List ℕ)
set_answered s g r i [] = None
set_answered s g r i (act ∷ before) = option_or (set_answered s g r i before) (set_heard s g r i before act)

-- this is the set
abbrev pub is_set : Option (List ℕ) → List ℕ → Bool
is_set None set = false
is_set (Some kept) set = bytes_eq kept set

-- the meter answers, now or again, when it is told of the set
abbrev pub does_answer : Shape → ℕ → ℕ → ℕ → List ℕ → List Act → Bool
does_answer s g r i set before = is_set (set_answered s g r i (Tell g r i set ∷ before)) set
