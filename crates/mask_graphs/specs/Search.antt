-- A search of the graph: its bare parts, and steps along spanning trees of all parts.
use Rattle.std.specs.Prelude.{ℕ, zero, suc, Bool, not, ◌&&◌, List, [], ◌∷◌, ◌++◌, length, filter, Option, Some, None, is_some}
use Rattle.std.specs.List.{find, flat_map}
use Rattle.missing_round.specs.Sets.{is_member}
use Rattle.mask_graphs.specs.Graphs.{Graph, sees, linked}
use Rattle.mask_graphs.specs.Steps.{Step}

-- ---- parts

-- a meter that isn't in the part yet, and is linked with one of it
abbrev pub is_next : Graph → List ℕ → ℕ → Bool
is_next graph part i = not (is_member i part) && is_some (find (linked graph i) part)

abbrev pub with_next : List ℕ → Option ℕ → List ℕ
with_next part None = part
with_next part (Some i) = i ∷ part

-- the part takes n times the first of these meters that is next, while there is one; so it lists its meters, the last found first
abbrev pub grown : Graph → ℕ → List ℕ → List ℕ → List ℕ
grown graph zero part meters = part
grown graph (suc n) part meters = grown graph n (with_next part (find (is_next graph part) meters)) meters

-- those that aren't in the part
abbrev pub outside : List ℕ → List ℕ → List ℕ
outside part meters = filter (λ i. not (is_member i part)) meters

-- the parts of these meters, n at most: that of the first meter, and those of the others
abbrev pub parts_of : Graph → ℕ → List ℕ → List (List ℕ)
parts_of graph zero meters = []
parts_of graph (suc n) [] = []
parts_of graph (suc n) (i ∷ meters) =
    grown graph (length meters) (i ∷ []) meters ∷ parts_of graph n (outside (grown graph (length meters) (i ∷ []) meters) meters)

-- ---- which of them are bare

-- the way out of a meter: the first that it sees and that doesn't see it, where there is one
abbrev pub way_out : Graph → ℕ → Option ℕ
way_out graph i = find (λ j. sees graph i j && not (sees graph j i)) graph.members

-- the meters that answered, and those of them with a way out
abbrev pub answering : Graph → List ℕ
answering graph = filter graph.answered graph.members

abbrev pub leaving : Graph → List ℕ
leaving graph = filter (λ i. is_some (way_out graph i)) (answering graph)

-- the meters of all parts that aren't bare: those with a way out, and all that are joined to them by links
abbrev pub covered : Graph → List ℕ
covered graph = grown graph (length (answering graph)) (leaving graph) (answering graph)

-- the bare parts
abbrev pub bare_parts : Graph → List (List ℕ)
bare_parts graph = parts_of graph (length (answering graph)) (outside (covered graph) (answering graph))

-- ---- steps

-- a step from a meter to another one, where there is one
abbrev pub step_to : ℕ → Option ℕ → List Step
step_to i None = []
step_to i (Some j) = record { from = i; to = j } ∷ []

-- along a tree: each meter hands to the first of those found before it with which it is linked
abbrev pub tree_steps : Graph → List ℕ → List Step
tree_steps graph [] = []
tree_steps graph (i ∷ part) = step_to i (find (linked graph i) part) ++ tree_steps graph part

-- each of these meters hands to its way out
abbrev pub out_steps : Graph → List ℕ → List Step
out_steps graph meters = flat_map (λ i. step_to i (way_out graph i)) meters

-- each bare part gathers at one of its meters; the meters of the other parts hand on to those with a way out, and these out
abbrev pub steps_of : Graph → List Step
steps_of graph =
    flat_map (tree_steps graph) (bare_parts graph) ++ (tree_steps graph (covered graph) ++ out_steps graph (leaving graph))
