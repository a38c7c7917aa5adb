use Rattle.std.proofs.Common.{◌≡◌, ℕ, ◌+◌, ◌<◌, length}
use Rattle.std.specs.Prelude.{slice_index}
use Rattle.missing_round.specs.Words.{word}
use Rattle.register_words.proofs.sums.add.Given as goal

-- the sums of the registers so far
abbrev pub invariant-loop-register : goal.invariant-loop-register
invariant-loop-register l =
    (length l.next ≡ 8)
    × ((k : ℕ) → k < l.register → slice_index l.next k ≡ word (slice_index l.sums k + slice_index l.words k))
