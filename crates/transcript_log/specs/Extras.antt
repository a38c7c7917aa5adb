-- The sets of meters and the words of lines: an extra has both, and is kept with the place of its set in a list of sets.
use Rattle.std.specs.Prelude.{◌≡◌, ℕ, ◌+◌, ◌-◌, ◌*◌, ◌^◌, ◌<◌, ◌≤◌, min, List, [], length, All, slice_index_or}
use Rattle.transcript_log.specs.declared.extras.Extra.{Extra}
use Rattle.transcript_log.specs.declared.extras.SmallExtra.{SmallExtra}

-- the extras, and for how many more there is room
pub record ExtrasView : Type 0 where
  pub items : List Extra
  pub spare : ℕ

-- the extra at a place
abbrev pub extra_at : List Extra → ℕ → Extra
extra_at extras place = slice_index_or extras place (record { set = []; word = 0 })

-- a list with at most one item more at its end
pub record Grows {T : Type 0} (old new : List T) : Type 0 where
  pub least : length old ≤ length new
  pub most : length new ≤ length old + 1
  pub same : (place : ℕ) (t : T) → place < length old → slice_index_or new place t ≡ slice_index_or old place t

-- ---- what a small extra stands for

-- the set at a place of a list of sets
abbrev pub set_at : List (List ℕ) → ℕ → List ℕ
set_at sets place = slice_index_or sets place []

-- the extra that a small one stands for: the set at its place, and the word of its halves
abbrev pub extra_in : List (List ℕ) → SmallExtra → Extra
extra_in sets e = record { set = set_at sets e.set; word = e.low + 2 ^ 32 * e.high }

-- the place of its set is one of n
abbrev pub HasSet : ℕ → SmallExtra → Type 0
HasSet n e = e.set < n

-- ---- the list of sets

-- this set stands at this place
abbrev pub IsSetAt : List (List ℕ) → ℕ → List ℕ → Type 0
IsSetAt sets place set = (place < length sets) × (set_at sets place ≡ set)

-- there are fewer than 2^32 extras, no more sets than extras, and each extra has one of the sets
pub record HaveSets (sets : List (List ℕ)) (extras : List SmallExtra) : Type 0 where
  pub few : length extras ≤ 2 ^ 32 - 1
  pub fewer : length sets ≤ length extras
  pub placed : All (HasSet (length sets)) extras

-- for how many more extras there is room, each with a set: in their list, which has fewer than 2^32, and in that of sets
abbrev pub spare_of : ℕ → ℕ → ℕ → ℕ → ℕ
spare_of extra_room extras set_room sets = min (min extra_room (2 ^ 32 - 1) - extras) (set_room - sets)
