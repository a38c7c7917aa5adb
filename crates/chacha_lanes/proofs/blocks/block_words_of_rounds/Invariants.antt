use Rattle.std.proofs.Common.{◌≡◌, ℕ, ◌+◌, ◌*◌, ◌^◌, ◌<◌, length, slice_index}
use Rattle.chacha_lanes.proofs.blocks.block_words_of_rounds.Given as goal

-- the words of the lanes so far
abbrev pub invariant-loop-lane : goal.invariant-loop-lane
invariant-loop-lane l =
    (length l.words ≡ 8)
    × ((j : ℕ) → j < l.lane → slice_index l.words j ≡ slice_index l.low j + 2 ^ 32 * slice_index l.high j)
