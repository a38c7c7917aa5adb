use Rattle.std.proofs.Common.{◌≡◌, ℕ, ◌<◌, length}
use Rattle.rand_chacha.specs.Block.{add32}
use Rattle.rand_chacha.specs.Lanes.{lane_at}
use Rattle.chacha_lanes.proofs.blocks.halves.Given as goal

-- the sums of the places so far
abbrev pub invariant-loop-place : goal.invariant-loop-place
invariant-loop-place l =
    (length l.halves ≡ 16) × ((j k : ℕ) → j < 8 → k < l.place → lane_at l.halves k j ≡ add32 (lane_at l.last k j) (lane_at l.first k j))
