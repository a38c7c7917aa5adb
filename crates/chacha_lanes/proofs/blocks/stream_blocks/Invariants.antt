use Rattle.std.proofs.Common.{◌≡◌, ℕ, ◌<◌, [], length}
use Rattle.std.specs.Prelude.{slice_index_or}
use Rattle.chacha_lanes.specs.Blocks.{lane_words}
use Rattle.chacha_lanes.proofs.blocks.stream_blocks.Given as goal

-- the words of the lanes so far
abbrev pub invariant-loop-lane : goal.invariant-loop-lane
invariant-loop-lane l = (length l.words ≡ 8) × ((j : ℕ) → j < l.lane → slice_index_or l.words j [] ≡ lane_words l.halves j)
