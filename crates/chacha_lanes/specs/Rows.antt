-- Rows of mask words.
use Rattle.std.specs.Prelude.{◌≡◌, ℕ, ◌+◌, ◌≤◌, List, ◌++◌, length, map, take}
use Rattle.chacha_lanes.specs.Stream.{mask_word}

-- the words of keys in a round
pub record Row : Type 0 where
  pub round : ℕ
  pub words : List ℕ

-- the words that are made, and those of the first keys that wait
abbrev pub row_of : ℕ → List ℕ → List (List ℕ) → ℕ → Row
row_of round made keys waiting = record { round = round; words = made ++ map (λ key. mask_word key round) (take waiting keys) }

-- at most eight keys wait, and there is room for their words
pub record KeepsRow (made : List ℕ) (keys : List (List ℕ)) (waiting : ℕ) : Type 0 where
  pub places : length keys ≡ 8
  pub waits : waiting ≤ 8
  pub room : length made + waiting ≤ 256
