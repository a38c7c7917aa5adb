-- Notes in a small form: each names its sets by places in a list of blocks of 64 bits.
use Rattle.std.specs.Prelude.{◌≡◌, ℕ, ◌+◌, ◌^◌, ◌<◌, ◌≤◌, List, [], ◌∷◌, length, All, sum_by, slice_index, Option, Some, None}
use Rattle.missing_round.specs.Sets.{members}
use Rattle.meter_core.specs.Notes.{Note}
use Rattle.meter_core.specs.declared.notes.SetPlace.{SetPlace}
use Rattle.meter_core.specs.declared.notes.SetPlace.TheVariants.{Nowhere, One, Four}
use Rattle.meter_core.specs.declared.notes.SmallNote.{SmallNote}

-- ---- what a small note stands for

-- the four blocks that stand at a place, where there is a set
abbrev pub bits_at : List ℕ → SetPlace → Option (List ℕ)
bits_at blocks Nowhere = None
bits_at blocks (One at) = Some (slice_index blocks at ∷ 0 ∷ 0 ∷ 0 ∷ [])
bits_at blocks (Four at) = Some (slice_index blocks at ∷ slice_index blocks (at + 1) ∷ slice_index blocks (at + 2) ∷ slice_index blocks (at + 3) ∷ [])

-- the set of bits, where there are some
abbrev pub set_of : Option (List ℕ) → Option (List ℕ)
set_of None = None
set_of (Some bits) = Some (members bits)

-- the set that stands at a place, where there is one
abbrev pub set_at : List ℕ → SetPlace → Option (List ℕ)
set_at blocks place = set_of (bits_at blocks place)

-- the note that a small one stands for
abbrev pub note_in : List ℕ → SmallNote → Note
note_in blocks n = record { members = set_at blocks n.members; kept = set_at blocks n.kept }

-- ---- the places that it names

-- the blocks of a place are among the first n
abbrev pub IsPlaced : ℕ → SetPlace → Type 0
IsPlaced n Nowhere = Unit {0}
IsPlaced n (One at) = at < n
IsPlaced n (Four at) = at + 3 < n

-- so are those of both places of a small note
abbrev pub IsNotePlaced : ℕ → SmallNote → Type 0
IsNotePlaced n note = IsPlaced n note.members × IsPlaced n note.kept

-- these bits stand at the place
abbrev pub StandsAt : List ℕ → List ℕ → SetPlace → Type 0
StandsAt blocks bits place = IsPlaced (length blocks) place × (bits_at blocks place ≡ Some bits)

-- ---- the list of blocks

-- a list of blocks with at most four blocks more at its end
pub record Grows (old new : List ℕ) : Type 0 where
  pub least : length old ≤ length new
  pub most : length new ≤ length old + 4
  pub same : (at : ℕ) → at < length old → slice_index new at ≡ slice_index old at

-- how many blocks more a place may need
abbrev pub blocks_for : SetPlace → ℕ
blocks_for Nowhere = 4
blocks_for _ = 0

-- how many blocks more a small note may need
abbrev pub blocks_to_come : SmallNote → ℕ
blocks_to_come n = blocks_for n.members + blocks_for n.kept

-- each note names blocks that there are, and there is room for those that may be needed
pub record AreKept (blocks : List ℕ) (capacity : ℕ) (notes : List SmallNote) : Type 0 where
  pub placed : All (IsNotePlaced (length blocks)) notes
  pub room : length blocks + sum_by blocks_to_come notes ≤ capacity
  pub few : capacity ≤ 2 ^ 15
