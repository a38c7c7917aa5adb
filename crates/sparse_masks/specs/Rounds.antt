-- A round of a ring, as the calls of this crate keep it.
use Rattle.std.specs.Prelude.{◌≡◌, ℕ, ◌<◌, ◌≤◌, nat_lt, true, false, List, [], length, map, slice_index_or, Option, Some, None}
use Rattle.std.specs.List.{list_all}
use Rattle.missing_round.specs.Words.{group}
use Rattle.group_plan.specs.Plans.{size}
use Rattle.event_schedule.specs.declared.Event.{Event}
use Rattle.event_schedule.specs.Schedule.{Shape, survivors, answered, is_announced}
use Rattle.mask_graphs.specs.Graphs.{Graph}
use Rattle.sparse_masks.specs.declared.round.Round.{Round}
use Rattle.sparse_masks.specs.Trees.{joined_to, component}
use Rattle.sparse_masks.specs.Offsets.{neighbour_graph}

-- its graph
abbrev pub graph_of : Round → Graph
graph_of r = neighbour_graph r.width r.meters r.survivors r.answered

-- the group has at most 256 meters, and the survivors are among them
pub record IsRingRound (r : Round) : Type 0 where
  pub few : r.meters ≤ 256
  pub within : list_all (λ i. nat_lt i r.meters) r.survivors ≡ true

-- by meter, the survivors with which it is joined
abbrev pub AreJoined : Round → List (List ℕ) → Type 0
AreJoined r sets = sets ≡ map (joined_to (graph_of r)) (group r.meters)

-- by meter, its component
abbrev pub AreComponents : Round → List (List ℕ) → Type 0
AreComponents r sets = (length sets ≡ r.meters) × ((i : ℕ) → i < r.meters → slice_index_or sets i [] ≡ component (graph_of r) i)

-- an announced round of a schedule
pub record IsRoundOf (w : ℕ) (s : Shape) (g r : ℕ) (whole : List Event) (round : Round) : Type 0 where
  pub announced : is_announced s g r whole ≡ true
  pub width : round.width ≡ w
  pub meters : round.meters ≡ size s.groups g
  pub survivors : round.survivors ≡ survivors s g r whole
  pub answered : round.answered ≡ answered s g r whole
  pub ring : IsRingRound round

-- the round, exactly where it is announced
abbrev pub RoundEnds : ℕ → Shape → ℕ → ℕ → List Event → Option Round → Type 0
RoundEnds w s g r whole (Some round) = IsRoundOf w s g r whole round
RoundEnds w s g r whole None = is_announced s g r whole ≡ false
