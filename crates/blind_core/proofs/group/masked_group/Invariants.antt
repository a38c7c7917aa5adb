use Rattle.std.proofs.Common.{◌≡◌, ℕ, ◌<◌, List, length, get_or, Option, None, slice_index_or}
use Rattle.blind_core.specs.Blind.{word_or_0}
use Rattle.blind_core.proofs.group.masked_group.Given as goal

-- the words of the meters so far
pub record Words (own : ℕ → ℕ) (pair : ℕ → ℕ → ℕ) (members : List ℕ) (readings : List (Option ℕ)) (n : ℕ) (words : List ℕ) : Type 0 where
  pub long : length words ≡ n
  pub each : (i : ℕ) → i < n → get_or words i 0 ≡ word_or_0 own pair members i (slice_index_or readings i None)

abbrev pub invariant-loop-meter : goal.invariant-loop-meter
invariant-loop-meter g l =
    Words ((g.M.Masks.table l.masks).own l.group l.round) ((g.M.Masks.table l.masks).pair l.group l.round) l.members l.readings l.meter l.words.items
