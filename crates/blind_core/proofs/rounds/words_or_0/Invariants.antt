use Rattle.std.proofs.Common.{◌≡◌, ℕ, ◌<◌, None, length, get_or, slice_index_or}
use Rattle.blind_core.specs.Rows.{hidden_or_0}
use Rattle.blind_core.proofs.rounds.words_or_0.Given as goal

-- the words of the rounds so far
abbrev pub invariant-loop-round : goal.invariant-loop-round
invariant-loop-round l =
    (length l.words ≡ 8)
    × ((j : ℕ) → j < l.round → get_or l.words j 0 ≡ hidden_or_0 (get_or l.sums j 0) (slice_index_or l.readings j None))
