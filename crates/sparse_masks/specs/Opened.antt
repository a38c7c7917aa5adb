-- The opened components of a ring, and the fewest members of any.
use Rattle.std.specs.Prelude.{◌≡◌, ℕ, ◌≤◌, ◌⊎◌, true, false, ◌&&◌, Bool, List, length, Option, Some, None, nat_le, if◌then◌else◌}
use Rattle.missing_round.specs.Sets.{is_member}
use Rattle.event_schedule.specs.declared.Event.{Event}
use Rattle.event_schedule.specs.Schedule.{Shape, survivors, is_announced}
use Rattle.ideal_masks.specs.OffsetEnds.{is_earlier}
use Rattle.sparse_masks.specs.declared.round.Round.{Round}
use Rattle.sparse_masks.specs.Trees.{component}
use Rattle.sparse_masks.specs.Offsets.{ring_graph, is_opened_at}
use Rattle.sparse_masks.specs.Rounds.{IsRoundOf}

-- meter i is a survivor of an announced round, and its component is opened
abbrev pub is_in_opened : ℕ → Shape → List Event → ℕ → ℕ → ℕ → Bool
is_in_opened w s whole g r i = is_announced s g r whole && is_member i (survivors s g r whole) && is_opened_at w s whole g r i

-- how many members its component has
abbrev pub component_size : ℕ → Shape → List Event → ℕ → ℕ → ℕ → ℕ
component_size w s whole g r i = length (component (ring_graph w s g r whole) i)

-- an opened component has so many members
pub record IsOpenedSize (w : ℕ) (s : Shape) (whole : List Event) (n : ℕ) : Type 0 where
  pub group : ℕ
  pub round : ℕ
  pub meter : ℕ
  pub opened : is_in_opened w s whole group round meter ≡ true
  pub size : component_size w s whole group round meter ≡ n

-- the fewest members of any opened component, or 0 where none is opened
abbrev pub IsLeastOpened : ℕ → Shape → List Event → ℕ → Type 0
IsLeastOpened w s whole least =
    ((least ≡ 0) × ((g r i : ℕ) → is_in_opened w s whole g r i ≡ false))
    ⊎ (IsOpenedSize w s whole least × ((g r i : ℕ) → is_in_opened w s whole g r i ≡ true → least ≤ component_size w s whole g r i))

-- ---- one place after another

-- so it is at each place before this one, by group, round and meter
abbrev pub Before : (ℕ → ℕ → ℕ → Type 0) → ℕ → ℕ → ℕ → Type 0
Before P g r i = (a b c : ℕ) → is_earlier a b c g r i ≡ true → P a b c

-- no component has fewer members; none is opened where there is no number
abbrev pub IsBound : ℕ → Shape → List Event → Option ℕ → ℕ → ℕ → ℕ → Type 0
IsBound w s whole None g r i = is_in_opened w s whole g r i ≡ false
IsBound w s whole (Some n) g r i = is_in_opened w s whole g r i ≡ true → n ≤ component_size w s whole g r i

-- the fewer of some members, where there are any, and of n
abbrev pub fewer_of : Option ℕ → ℕ → ℕ
fewer_of None n = n
fewer_of (Some k) n = if nat_le k n then k else n

-- and one has so many
abbrev pub IsReached : ℕ → Shape → List Event → Option ℕ → Type 0
IsReached w s whole None = Unit {0}
IsReached w s whole (Some n) = IsOpenedSize w s whole n

-- the fewest members of any opened component before this place; none where none is opened
pub record IsFewest (w : ℕ) (s : Shape) (whole : List Event) (g r i : ℕ) (fewest : Option ℕ) : Type 0 where
  pub reached : IsReached w s whole fewest
  pub before : Before (IsBound w s whole fewest) g r i

-- from the places before a round to those before its meter i
abbrev pub FewestGoesOn : Round → Option ℕ → ℕ → Option ℕ → Type 0
FewestGoesOn round old i new =
    (w : ℕ) (s : Shape) (g r : ℕ) (whole : List Event) → IsRoundOf w s g r whole round → IsFewest w s whole g r 0 old → IsFewest w s whole g r i new
