-- The trees of a round's components, by meter.
use Rattle.std.specs.Prelude.{◌≡◌, ℕ, ◌<◌, true, List, length, map, slice_index_or, Option}
use Rattle.missing_round.specs.Words.{group}
use Rattle.missing_round.specs.Sets.{is_member}
use Rattle.sparse_masks.specs.declared.round.Round.{Round}
use Rattle.sparse_masks.specs.Trees.{root, steps_between, parent}
use Rattle.sparse_masks.specs.Rounds.{graph_of}

-- the delta of a meter in a list of them
abbrev pub delta_in : List ℕ → ℕ → ℕ
delta_in deltas i = slice_index_or deltas i 0

-- so many steps it is from its root to a survivor
abbrev pub IsRank : Round → ℕ → ℕ → Type 0
IsRank r i rank = is_member i r.survivors ≡ true → rank ≡ steps_between (graph_of r) (root (graph_of r) i) i

-- and of each of the first n meters
pub record AreRanks (r : Round) (n : ℕ) (ranks : List ℕ) : Type 0 where
  pub long : length ranks ≡ n
  pub each : (i : ℕ) → i < n → IsRank r i (slice_index_or ranks i 0)

-- by meter, its parent
abbrev pub AreParents : Round → List (Option ℕ) → Type 0
AreParents r parents = parents ≡ map (parent (graph_of r)) (group r.meters)
