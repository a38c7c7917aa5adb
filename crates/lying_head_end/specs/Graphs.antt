-- A round after the acts, as a graph of masks, for a pool of meters that share what they know with the head end.
-- `whole` is the whole list of acts as a past: the newest first.
use Rattle.std.specs.Prelude.{ℕ, Bool, false, not, ◌&&◌, List, Option, Some, None, is_some}
use Rattle.missing_round.specs.Sets.{is_member}
use Rattle.event_schedule.specs.Schedule.{Shape, members_of}
use Rattle.ideal_masks.specs.Pools.{Pool}
use Rattle.mask_graphs.specs.Graphs.{Graph}
use Rattle.lying_head_end.specs.Acts.{Act, set_answered}

-- whether the set leaves a meter standing
abbrev pub leaves : Option (List ℕ) → ℕ → Bool
leaves None j = false
leaves (Some set) j = not (is_member j set)

-- S of meter i: the members outside the set that it answered
abbrev pub stands : Shape → ℕ → ℕ → List Act → ℕ → ℕ → Bool
stands s g r whole i j = is_member j (members_of s g r) && leaves (set_answered s g r i whole) j

-- the graph of the round: any two members outside the pool share a mask that it doesn't know
abbrev pub graph_for : Pool → Shape → List Act → ℕ → ℕ → Graph
graph_for pool s whole g r = record {
  members = members_of s g r;
  masked = λ i j. not (pool g i) && not (pool g j);
  answered = λ i. not (pool g i) && is_some (set_answered s g r i whole);
  stands = stands s g r whole;
}
