-- What the laws of this crate say. Each is proved for every width, plan, table and schedule.
use Rattle.std.specs.Prelude.{◌≡◌, ℕ, ◌+◌, ◌-◌, ◌%◌, ◌<◌, ◌==◌, nat_le, Bool, true, not, ◌&&◌, ◌||◌, List, reverse, is_some}
use Rattle.missing_round.specs.Sets.{is_member}
use Rattle.group_plan.specs.Plans.{Group}
use Rattle.event_schedule.specs.declared.Event.{Event}
use Rattle.event_schedule.specs.Tables.{Readings, Masks, IsOfPlan, IsBounded}
use Rattle.event_schedule.specs.Transcript.{transcript}
use Rattle.ideal_masks.specs.Offsets.{shift}
use Rattle.mask_graphs.specs.Graphs.{Graph}
use Rattle.sparse_masks.specs.Neighbours.{are_neighbours, ring}
use Rattle.sparse_masks.specs.Trees.{are_joined, component}
use Rattle.sparse_masks.specs.Offsets.{RingAgree, ring_offsets}

-- ---- neighbours and components

-- in a group of n, two meters are neighbours where the lesser of (i - j) and (j - i), both modulo n, is at most w
abbrev pub NeighboursAreNear : Type 0
NeighboursAreNear = (w n i j : ℕ) → i < n → j < n →
    are_neighbours w n i j ≡ (not (i == j) && (nat_le ((i + n - j) % n) w || nat_le ((j + n - i) % n) w))

-- members that are joined are both in the set, or neither is
abbrev pub IsWhole : Graph → (ℕ → Bool) → Type 0
IsWhole graph p = (i j : ℕ) → is_member i graph.members ≡ true → is_member j graph.members ≡ true → are_joined graph i j ≡ true → p i ≡ p j

-- of the sets with meter i that joined members are both in or both out of, its component is the smallest
pub record IsComponent (graph : Graph) (i : ℕ) : Type 0 where
  pub some : is_member i (component graph i) ≡ true
  pub whole : IsWhole graph (λ j. is_member j (component graph i))
  pub smallest : (q : ℕ → Bool) → IsWhole graph q → q i ≡ true → (j : ℕ) → is_member j (component graph i) ≡ true → q j ≡ true

abbrev pub ComponentsAreSmallest : Type 0
ComponentsAreSmallest = (graph : Graph) → ((i j : ℕ) → graph.masked i j ≡ graph.masked j i) → (i : ℕ) → is_member i graph.members ≡ true →
    IsComponent graph i

-- ---- isolation

-- two worlds: tables that agree have one transcript under the shifted masks, and so the same totals
abbrev pub RingWorlds : Type 0
RingWorlds = (w : ℕ) (groups : List Group) (x y : Readings) (m : Masks) (events : List Event) →
    IsOfPlan groups x → IsBounded groups x → IsBounded groups y → RingAgree w groups x y (reverse events) →
    transcript groups y (ring w groups (shift (ring_offsets w groups x y (reverse events)) m)) events ≡ transcript groups x (ring w groups m) events

-- the converse: tables of one presence with one transcript agree, whatever the masks are
abbrev pub RingConverse : Type 0
RingConverse = (w : ℕ) (groups : List Group) (x y : Readings) (m k : Masks) (events : List Event) →
    ((g r i : ℕ) → is_some (x g r i) ≡ is_some (y g r i)) → IsBounded groups x → IsBounded groups y →
    transcript groups x (ring w groups m) events ≡ transcript groups y (ring w groups k) events → RingAgree w groups x y (reverse events)

-- the ring of the moved masks is the moved ring: the words that move are neighbours'
abbrev pub RingShifts : Type 0
RingShifts = (w : ℕ) (groups : List Group) (x y : Readings) (m : Masks) (whole : List Event) →
    ring w groups (shift (ring_offsets w groups x y whole) m) ≡ shift (ring_offsets w groups x y whole) (ring w groups m)
