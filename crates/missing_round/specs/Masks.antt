-- Mask tables: for each group, round and meter an own word, and for each two meters of a group a pair word.
use Rattle.std.specs.Prelude.{ℕ}

-- the own word of a meter, and the pair word of two meters, the lower one first
pub record Masks : Type 0 where
  pub own : ℕ → ℕ → ℕ → ℕ
  pub pair : ℕ → ℕ → ℕ → ℕ → ℕ
