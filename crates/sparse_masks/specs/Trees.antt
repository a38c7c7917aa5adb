-- The members of a round that masks join, and a tree of each component, for any graph of masks.
use Rattle.std.specs.Prelude.{ℕ, zero, suc, ◌+◌, ◌==◌, Bool, false, not, ◌&&◌, ◌||◌, List, length, filter, sum_by, slice_index_or, Option, Some, None, unwrap_or, if◌then◌else◌}
use Rattle.std.specs.List.{list_all, list_any, count_by, find, range_with_len}
use Rattle.missing_round.specs.Words.{minus}
use Rattle.missing_round.specs.Sets.{is_member}
use Rattle.mask_graphs.specs.Graphs.{Graph}
use Rattle.mask_graphs.specs.Moves.{load}

-- ---- components

-- two meters are joined where they share a mask
abbrev pub are_joined : Graph → ℕ → ℕ → Bool
are_joined graph i j = not (i == j) && graph.masked i j

-- the members with which a meter is joined
abbrev pub joined_to : Graph → ℕ → List ℕ
joined_to graph i = filter (are_joined graph i) graph.members

-- one of them is in the set
abbrev pub touches : Graph → List ℕ → ℕ → Bool
touches graph set i = list_any (λ j. is_member j set) (joined_to graph i)

-- the set, and the members that touch it
abbrev pub widened : Graph → List ℕ → List ℕ
widened graph set = filter (λ j. is_member j set || touches graph set j) graph.members

-- the members at most k steps from meter i
abbrev pub around : Graph → ℕ → ℕ → List ℕ
around graph i zero = filter (λ j. j == i) graph.members
around graph i (suc k) = widened graph (around graph i k)

-- the component of a meter: all to which steps lead from it
abbrev pub component : Graph → ℕ → List ℕ
component graph i = around graph i (length graph.members)

-- it is opened where all its members answered
abbrev pub is_component_opened : Graph → ℕ → Bool
is_component_opened graph i = list_all graph.answered (component graph i)

-- ---- its tree

-- the root: the least member of the component that didn't answer, or the least of all where each did
abbrev pub root : Graph → ℕ → ℕ
root graph i = unwrap_or (find (λ j. not (graph.answered j)) (component graph i)) (slice_index_or (component graph i) 0 i)

-- how many steps it is from meter i to meter j: of the sets around i, of 0 steps, of 1 step and so on, so many don't have j
abbrev pub steps_between : Graph → ℕ → ℕ → ℕ
steps_between graph i j = count_by (λ k. not (is_member j (around graph i k))) (range_with_len 0 (length graph.members))

-- the parent of a meter: the least that is joined to it and one step nearer to the root; the root has none
abbrev pub parent : Graph → ℕ → Option ℕ
parent graph u = find (λ v. steps_between graph (root graph u) v + 1 == steps_between graph (root graph u) u) (joined_to graph u)

-- this meter is the one, where there is one
abbrev pub is_one : Option ℕ → ℕ → Bool
is_one None v = false
is_one (Some u) v = u == v

-- so it is for the one, where there is one
abbrev pub holds_for : (ℕ → Bool) → Option ℕ → Bool
holds_for test None = false
holds_for test (Some u) = test u

-- the first n steps of the way from meter k to its root pass u
abbrev pub passes : Graph → ℕ → ℕ → ℕ → Bool
passes graph zero u k = k == u
passes graph (suc n) u k = (k == u) || holds_for (passes graph n u) (parent graph k)

-- ---- what moves, for deltas d

-- the sum of the deltas of those that answered, over a meter and all whose way to the root passes it
abbrev pub gathered : Graph → (ℕ → ℕ) → ℕ → ℕ
gathered graph d u = sum_by (load graph d) (filter (passes graph (length graph.members) u) graph.members)

-- the pair word of a meter and its parent moves by what the meter gathered, with its sign
abbrev pub tree_pair_move : Graph → (ℕ → ℕ) → ℕ → ℕ → ℕ
tree_pair_move graph d i j =
    (if is_one (parent graph i) j then gathered graph d i else 0) + (if is_one (parent graph j) i then minus (gathered graph d j) else 0)

-- the own word of a meter that didn't answer moves by its delta, and that of a root which didn't by all that its component gathered besides
abbrev pub tree_own_move : Graph → (ℕ → ℕ) → ℕ → ℕ
tree_own_move graph d i =
    if graph.answered i then 0 else (d i + (if root graph i == i then sum_by (load graph d) (component graph i) else 0))
