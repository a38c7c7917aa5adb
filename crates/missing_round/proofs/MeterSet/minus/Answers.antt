use Rattle.std.proofs.Common.{◌≡◌, ◌∙◌, ℕ, zero, suc, ◌<◌, ◌-◌, ◌^◌, arith, bit_and, get_or, List, [], ◌∷◌, refl}
use Rattle.missing_round.specs.Sets.{less}
use Rattle.missing_round.proofs.BlockLemmas.{blocks-four, and-lt, members-less}
use Rattle.missing_round.proofs.MeterSet.minus.Goals as goal

pub invariant_of-result : goal.invariant_of-result
invariant_of-result c = blocks-four _ _ _ _ (and-lt _ _ _ (c.self.invariant.small 0)) (and-lt _ _ _ (c.self.invariant.small 1)) (and-lt _ _ _ (c.self.invariant.small 2)) (and-lt _ _ _ (c.self.invariant.small 3))

parts : (ws vs : List ℕ) (k : ℕ) → k < 4
    → get_or (bit_and (get_or ws 0 0) (2 ^ 64 - 1 - get_or vs 0 0) ∷ bit_and (get_or ws 1 0) (2 ^ 64 - 1 - get_or vs 1 0) ∷ bit_and (get_or ws 2 0) (2 ^ 64 - 1 - get_or vs 2 0) ∷ bit_and (get_or ws 3 0) (2 ^ 64 - 1 - get_or vs 3 0) ∷ []) k 0
    ≡ bit_and (get_or ws k 0) (2 ^ 64 - 1 - get_or vs k 0)
parts ws vs zero h = refl
parts ws vs (suc zero) h = refl
parts ws vs (suc (suc zero)) h = refl
parts ws vs (suc (suc (suc zero))) h = refl
parts ws vs (suc (suc (suc (suc k)))) h = absurd (omega arith)

pub returns : goal.returns
returns c =
    members-less c.self.inside.blocks c.other.inside.blocks _ c.self.invariant c.other.invariant (parts c.self.inside.blocks c.other.inside.blocks)
    ∙ (λ k. less (c.self.view_is k) (c.other.view_is k))
