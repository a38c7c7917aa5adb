-- What `ring_offsets` answers, by cases.
use Rattle.std.specs.Prelude.{◌≡◌, ℕ, true, List, reverse, Result, Ok, Err}
use Rattle.missing_round.specs.Sets.{is_member}
use Rattle.group_plan.specs.Tables.{ReadingsView, reading}
use Rattle.event_schedule.specs.declared.Event.{Event}
use Rattle.event_schedule.specs.Tables.{Readings, Masks, plain_sum}
use Rattle.event_schedule.specs.Schedule.{Shape, survivors, is_announced}
use Rattle.event_schedule.specs.Transcript.{shape_of_readings, transcript}
use Rattle.group_book.specs.Books.{BookView}
use Rattle.ideal_masks.specs.declared.Offset.{Offset}
use Rattle.ideal_masks.specs.Moves.{offset_list}
use Rattle.ideal_masks.specs.OffsetEnds.{IsAlike, IsFirstPresence}
use Rattle.ideal_masks.specs.Offsets.{shift}
use Rattle.sparse_masks.specs.declared.RingDiffer.{RingDiffer}
use Rattle.sparse_masks.specs.declared.RingDiffer.TheVariants.{Presence, Component, Memory}
use Rattle.sparse_masks.specs.Neighbours.{ring}
use Rattle.sparse_masks.specs.Trees.{component}
use Rattle.sparse_masks.specs.Offsets.{ring_graph, is_opened_at, HasOneRingSum, RingAgree, ring_offsets}
use Rattle.sparse_masks.specs.Opened.{Before}

-- a survivor whose component is opened, over which the tables' sums differ, and these sums
pub record IsOtherRingSum (w : ℕ) (s : Shape) (x y : Readings) (whole : List Event) (g r i a b : ℕ) : Type 0 where
  pub announced : is_announced s g r whole ≡ true
  pub survivor : is_member i (survivors s g r whole) ≡ true
  pub opened : is_opened_at w s whole g r i ≡ true
  pub first : a ≡ plain_sum x g r (component (ring_graph w s g r whole) i)
  pub second : b ≡ plain_sum y g r (component (ring_graph w s g r whole) i)
  pub differ : a ≡ b → ⊥

-- the first of them by group, round and meter, which is the least member of its component
pub record IsFirstRingSum (w : ℕ) (s : Shape) (x y : Readings) (whole : List Event) (g r i a b : ℕ) : Type 0 where
  pub other : IsOtherRingSum w s x y whole g r i a b
  pub before : Before (HasOneRingSum w s x y whole) g r i

-- the sums are one before this place; or this is the first where they aren't
abbrev pub SumsGoOn : ℕ → Shape → Readings → Readings → List Event → ℕ → ℕ → ℕ → Result (Unit {0}) RingDiffer → Type 0
SumsGoOn w s x y whole g r i (Ok _) = Before (HasOneRingSum w s x y whole) g r i
SumsGoOn w s x y whole g r i (Err (Component h q j a b)) = IsFirstRingSum w s x y whole h q j a b
SumsGoOn w s x y whole g r i (Err Memory) = Unit {0}
SumsGoOn w s x y whole g r i (Err _) = ⊥

-- the sums are one everywhere; or this is the first place where they aren't
abbrev pub SumsEnd : ℕ → Shape → Readings → Readings → List Event → Result (Unit {0}) RingDiffer → Type 0
SumsEnd w s x y whole (Ok _) = (g r i : ℕ) → HasOneRingSum w s x y whole g r i
SumsEnd w s x y whole (Err (Component g r i a b)) = IsFirstRingSum w s x y whole g r i a b
SumsEnd w s x y whole (Err Memory) = Unit {0}
SumsEnd w s x y whole (Err _) = ⊥

-- the tables are alike everywhere; or this is the first place where they aren't
abbrev pub PlacesEnd : ReadingsView → ReadingsView → Result (Unit {0}) RingDiffer → Type 0
PlacesEnd x y (Ok _) = (g r i : ℕ) → IsAlike (reading x.table) (reading y.table) g r i
PlacesEnd x y (Err (Presence g r i)) = IsFirstPresence (reading x.table) (reading y.table) g r i
PlacesEnd x y (Err _) = ⊥

-- the two tables are of the book's plan
pub record AreOfBook (x y : ReadingsView) (b : BookView) : Type 0 where
  pub first : x.plan ≡ b.presence.plan
  pub second : y.plan ≡ b.presence.plan

-- the list of the moved words where the tables agree on the ring; else the first place of another presence, or where there is none, the
-- first component with another sum
abbrev pub RingOffsetsEnd : ℕ → ReadingsView → ReadingsView → List Event → Result (List Offset) RingDiffer → Type 0
RingOffsetsEnd w x y events (Ok list) =
    RingAgree w x.plan.groups (reading x.table) (reading y.table) (reverse events)
    × (list ≡ offset_list x.plan (ring_offsets w x.plan.groups (reading x.table) (reading y.table) (reverse events)))
RingOffsetsEnd w x y events (Err (Presence g r i)) = IsFirstPresence (reading x.table) (reading y.table) g r i
RingOffsetsEnd w x y events (Err (Component g r i a b)) =
    ((h q j : ℕ) → IsAlike (reading x.table) (reading y.table) h q j)
    × IsFirstRingSum w (shape_of_readings x.plan.groups (reading x.table)) (reading x.table) (reading y.table) (reverse events) g r i a b
RingOffsetsEnd w x y events (Err Memory) = Unit {0}

-- two worlds: under whatever masks, the second table has the transcript of the first by the ring of the moved ones
abbrev pub HasRingWorlds : ℕ → ReadingsView → ReadingsView → List Event → Type 0
HasRingWorlds w x y events =
    (m : Masks) → transcript x.plan.groups (reading y.table) (ring w x.plan.groups (shift (ring_offsets w x.plan.groups (reading x.table) (reading y.table) (reverse events)) m)) events
    ≡ transcript x.plan.groups (reading x.table) (ring w x.plan.groups m) events

-- where a component has another sum, no masks at all make the transcripts on the ring one
abbrev pub HasNoRingWorlds : ℕ → ReadingsView → ReadingsView → List Event → RingDiffer → Type 0
HasNoRingWorlds w x y events (Component g r i a b) =
    (m k : Masks) → transcript x.plan.groups (reading x.table) (ring w x.plan.groups m) events ≡ transcript x.plan.groups (reading y.table) (ring w x.plan.groups k) events → ⊥
HasNoRingWorlds w x y events _ = Unit {0}
