-- How far joints lead around the ring from a survivor.
use Rattle.std.specs.Prelude.{◌≡◌, ℕ, ◌+◌, ◌-◌, ◌<◌, ◌≤◌, nat_lt, nat_le, true, false, if◌then◌else◌}
use Rattle.missing_round.specs.Sets.{is_member}
use Rattle.sparse_masks.specs.declared.round.Round.{Round}
use Rattle.sparse_masks.specs.declared.stretch.Way.{Way}
use Rattle.sparse_masks.specs.declared.stretch.Way.TheVariants.{Up, Down}
use Rattle.sparse_masks.specs.Trees.{component}
use Rattle.sparse_masks.specs.Rounds.{graph_of}

-- the meter k places from meter x on the ring of n meters
abbrev pub place : ℕ → Way → ℕ → ℕ → ℕ
place n Up x k = if nat_lt (x + k) n then x + k else x + k - n
place n Down x k = if nat_le k x then x - k else x + n - k

-- the survivors at most so many places from meter x are in its component, and none is at the next w
pub record Reaches (r : Round) (x : ℕ) (way : Way) (reach : ℕ) : Type 0 where
  pub within : reach < r.meters
  pub inside : (k : ℕ) → k ≤ reach → is_member (place r.meters way x k) r.survivors ≡ true → is_member (place r.meters way x k) (component (graph_of r) x) ≡ true
  pub gap : (k : ℕ) → reach < k → k ≤ reach + r.width → k < r.meters → is_member (place r.meters way x k) r.survivors ≡ false
