use Rattle.std.proofs.Common.{◌≡◌, ℕ, zero, suc, ◌<◌, ◌-◌, ◌*◌, ◌^◌, min, arith, get_or, [], ◌∷◌}
use Rattle.missing_round.proofs.BlockLemmas.{blocks-four, members-full}
use Rattle.missing_round.proofs.MeterSet.full.Goals as goal

pub invariant_of-result : goal.invariant_of-result
invariant_of-result c = blocks-four _ _ _ _ (omega arith) (omega arith) (omega arith) (omega arith)

parts : (a b d e n : ℕ) → a ≡ 2 ^ min 64 (n - 64 * 0) - 1 → b ≡ 2 ^ min 64 (n - 64 * 1) - 1 → d ≡ 2 ^ min 64 (n - 64 * 2) - 1 → e ≡ 2 ^ min 64 (n - 64 * 3) - 1
    → (k : ℕ) → k < 4 → get_or (a ∷ b ∷ d ∷ e ∷ []) k 0 ≡ 2 ^ min 64 (n - 64 * k) - 1
parts a b d e n p q r s zero h = p
parts a b d e n p q r s (suc zero) h = q
parts a b d e n p q r s (suc (suc zero)) h = r
parts a b d e n p q r s (suc (suc (suc zero))) h = s
parts a b d e n p q r s (suc (suc (suc (suc k)))) h = absurd (omega arith)

pub returns : goal.returns
returns c = members-full _ c.args.n c.requires (parts _ _ _ _ c.args.n c.low.ensures c.low-2.ensures c.low-3.ensures c.low-4.ensures)
