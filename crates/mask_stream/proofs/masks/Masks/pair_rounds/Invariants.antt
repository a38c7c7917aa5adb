use Rattle.std.proofs.Common.{◌≡◌, ℕ, ◌+◌, ◌<◌, length, slice_index}
use Rattle.mask_stream.proofs.masks.Masks.pair_rounds.Given as goal

-- the words of the rounds so far
abbrev pub invariant-loop-round : goal.invariant-loop-round
invariant-loop-round g l =
    (length l.words ≡ 8)
    × ((j : ℕ) → j < l.round → slice_index l.words j ≡ (g.Self.Masks.table l.self).pair l.group (l.first + j) l.low l.high)
