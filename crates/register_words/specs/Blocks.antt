-- Keys that wait for their words, and which keys a row of blocks is of.
use Rattle.std.specs.Prelude.{◌≡◌, ℕ, ◌≤◌, ◌==◌, ◌&&◌, not, nat_lt, if◌then◌else◌, Bool, List, ◌++◌, length, map, take, Some}
use Rattle.group_plan.specs.Plans.{PlanView, size}
use Rattle.pair_keys.specs.declared.KeyId.{KeyId}
use Rattle.pair_keys.specs.declared.KeyId.TheVariants.{Pair}
use Rattle.register_words.specs.Words.{words_of}

-- keys that wait for their words in a round
pub record BatchView : Type 0 where
  pub round : ℕ
  pub keys : List (List ℕ)

-- the first of these keys wait
abbrev pub batch_of : ℕ → List (List ℕ) → ℕ → BatchView
batch_of round keys waiting = record { round = round; keys = take waiting keys }

-- at most eight keys wait
pub record KeepsBatch (keys : List (List ℕ)) (waiting : ℕ) : Type 0 where
  pub places : length keys ≡ 8
  pub waits : waiting ≤ 8

-- the blocks that are made, and those of the keys that wait
abbrev pub made_with : BatchView → List (List ℕ) → List (List ℕ)
made_with batch made = made ++ map (λ key. words_of (Some key) batch.round) batch.keys

-- the key of the pair of two meters, whichever is the lower
abbrev pub pair_of : ℕ → ℕ → ℕ → KeyId
pair_of g i j = if nat_lt i j then Pair g i j else Pair g j i

-- whether meter j can be the other end of a pair with i: it is another meter of the group
abbrev pub is_end : PlanView → ℕ → ℕ → ℕ → Bool
is_end plan g i j = nat_lt j (size plan.groups g) && not (j == i)
