-- How the mask words of a round move by steps, so that one list of readings takes the place of another.
use Rattle.std.specs.Prelude.{◌≡◌, ℕ, ◌+◌, ◌==◌, Bool, true, not, ◌&&◌, ◌||◌, List, [], ◌∷◌, filter, All, if◌then◌else◌}
use Rattle.missing_round.specs.Words.{word}
use Rattle.missing_round.specs.Sets.{is_member}
use Rattle.ideal_masks.specs.Offsets.{link}
use Rattle.mask_graphs.specs.Graphs.{Graph}
use Rattle.mask_graphs.specs.Steps.{Step, handed, left_after, stays_at}

-- at first a meter that answered has its delta to hand on, and another one nothing
abbrev pub load : Graph → (ℕ → ℕ) → ℕ → ℕ
load graph d i = if graph.answered i then d i else 0

-- each step moves the pair word of its two meters by what it hands on
abbrev pub pair_move : Graph → List Step → (ℕ → ℕ) → ℕ → ℕ → ℕ
pair_move graph [] left i j = 0
pair_move graph (s ∷ rest) left i j = link s.from s.to (left s.from) i j + pair_move graph rest (handed graph s left) i j

-- an own word moves by the delta, if the meter didn't answer, by what the meter has left at last, and by what stays with it
abbrev pub own_move : Graph → List Step → (ℕ → ℕ) → ℕ → ℕ
own_move graph steps d i =
    (if graph.answered i then 0 else d i) + (left_after graph steps (load graph d) i + stays_at graph steps (load graph d) i)

-- ---- which steps do

-- a step leads along a mask to another member, and the answer of its first meter, where there is one, has not this mask
abbrev pub is_free : Graph → Step → Bool
is_free graph s =
    is_member s.from graph.members && is_member s.to graph.members && not (s.from == s.to) && graph.masked s.from s.to
    && (not (graph.answered s.from) || graph.stands s.from s.to)

-- each step is free, and after them a meter that answered has nothing left
pub record Fit (graph : Graph) (steps : List Step) (d : ℕ → ℕ) : Type 0 where
  pub free : All (λ s. is_free graph s ≡ true) steps
  pub clear : (i : ℕ) → graph.answered i ≡ true → word (left_after graph steps (load graph d) i) ≡ 0

-- ---- the words of a round

-- the members that the answer of a meter didn't leave standing: it has the masks with these
abbrev pub left_out : Graph → ℕ → List ℕ
left_out graph i = filter (λ j. not (graph.stands i j)) graph.members
