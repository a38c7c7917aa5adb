-- Ring offsets: how the words of a ring move, so that one table of readings takes the place of another.
-- `whole` is the whole schedule as a past: all its events, the newest first.
use Rattle.std.specs.Prelude.{◌≡◌, ℕ, Bool, true, List, is_some, if◌then◌else◌}
use Rattle.missing_round.specs.Sets.{is_member}
use Rattle.group_plan.specs.Plans.{Group, size}
use Rattle.event_schedule.specs.declared.Event.{Event}
use Rattle.event_schedule.specs.Tables.{Readings, Masks, plain_sum}
use Rattle.event_schedule.specs.Schedule.{Shape, survivors, answered, is_announced}
use Rattle.event_schedule.specs.Transcript.{shape_of_readings}
use Rattle.ideal_masks.specs.Offsets.{delta}
use Rattle.mask_graphs.specs.Graphs.{Graph}
use Rattle.sparse_masks.specs.Neighbours.{are_neighbours}
use Rattle.sparse_masks.specs.Trees.{component, is_component_opened, tree_own_move, tree_pair_move}

-- the members a of a group of n meters as a graph, in which neighbours share a mask; those in b answered
abbrev pub neighbour_graph : ℕ → ℕ → List ℕ → List ℕ → Graph
neighbour_graph w n a b = record {
  members = a;
  masked = are_neighbours w n;
  answered = λ i. is_member i b;
  stands = λ i j. is_member j a;
}

-- the graph of an announced round: that of its survivors
abbrev pub ring_graph : ℕ → Shape → ℕ → ℕ → List Event → Graph
ring_graph w s g r whole = neighbour_graph w (size s.groups g) (survivors s g r whole) (answered s g r whole)

-- ---- agreement

-- the component of a survivor of an announced round is opened
abbrev pub is_opened_at : ℕ → Shape → List Event → ℕ → ℕ → ℕ → Bool
is_opened_at w s whole g r i = is_component_opened (ring_graph w s g r whole) i

-- if it is, both tables have one sum over it
abbrev pub HasOneRingSum : ℕ → Shape → Readings → Readings → List Event → ℕ → ℕ → ℕ → Type 0
HasOneRingSum w s x y whole g r i =
    is_announced s g r whole ≡ true → is_member i (survivors s g r whole) ≡ true → is_opened_at w s whole g r i ≡ true →
    plain_sum x g r (component (ring_graph w s g r whole) i) ≡ plain_sum y g r (component (ring_graph w s g r whole) i)

-- the tables have the same presence, and one sum over each opened component
pub record RingAgree (w : ℕ) (groups : List Group) (x y : Readings) (whole : List Event) : Type 0 where
  pub presence : (g r i : ℕ) → is_some (x g r i) ≡ is_some (y g r i)
  pub sums : (g r i : ℕ) → HasOneRingSum w (shape_of_readings groups x) x y whole g r i

-- ---- offsets

-- in an announced round words move along the trees of its graph, and in another one each own word moves by its delta
abbrev pub ring_moves : ℕ → Shape → (ℕ → ℕ → ℕ → ℕ) → List Event → Masks
ring_moves w s d whole = record {
  own = λ g r i. if is_announced s g r whole then tree_own_move (ring_graph w s g r whole) (d g r) i else d g r i;
  pair = λ g r i j. if is_announced s g r whole then tree_pair_move (ring_graph w s g r whole) (d g r) i j else 0;
}

-- the offsets between two tables of readings that agree
abbrev pub ring_offsets : ℕ → List Group → Readings → Readings → List Event → Masks
ring_offsets w groups x y whole = ring_moves w (shape_of_readings groups x) (delta x y) whole
