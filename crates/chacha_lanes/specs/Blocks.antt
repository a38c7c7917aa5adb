-- Blocks of ChaCha20 in the lanes of vectors.
use Rattle.std.specs.Prelude.{ℕ, ◌+◌, ◌*◌, ◌^◌, List, map}
use Rattle.std.specs.List.{range_with_len}
use Rattle.rand_chacha.specs.Lanes.{lane_at}

-- the words of 64 bits in lane j, where each row has the halves of one place
abbrev pub lane_words : List (List ℕ) → ℕ → List ℕ
lane_words halves j = map (λ k. lane_at halves (2 * k) j + 2 ^ 32 * lane_at halves (2 * k + 1) j) (range_with_len 0 8)
