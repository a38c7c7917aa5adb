-- The chain of a round is a tree, too: the steps along it move the pair words as the chain does.
use Rattle.std.specs.Prelude.{◌≡◌, ℕ, false, List, [], ◌∷◌, All}
use Rattle.missing_round.specs.Sets.{is_member}
use Rattle.ideal_masks.specs.Offsets.{pair_move as chain_move}
use Rattle.mask_graphs.specs.Graphs.{Graph}
use Rattle.mask_graphs.specs.Steps.{Step, stays}
use Rattle.mask_graphs.specs.Moves.{pair_move}

-- each meter of the list hands to the next
abbrev pub chain_steps : List ℕ → List Step
chain_steps [] = []
chain_steps (u ∷ []) = []
chain_steps (u ∷ v ∷ rest) = record { from = u; to = v } ∷ chain_steps (v ∷ rest)

-- no meter stands twice
abbrev pub StandOnce : List ℕ → Type 0
StandOnce [] = Unit {0}
StandOnce (u ∷ rest) = (is_member u rest ≡ false) × StandOnce rest

-- where all that is handed is handed on
abbrev pub ChainsAreSteps : Type 0
ChainsAreSteps = (graph : Graph) (chain : List ℕ) (d : ℕ → ℕ) (i j : ℕ) → StandOnce chain → All (λ s. stays graph s ≡ false) (chain_steps chain) →
    chain_move d 0 chain i j ≡ pair_move graph (chain_steps chain) d i j
