use Rattle.std.proofs.Common.{◌≡◌, ℕ, ◌+◌, ◌<◌, length, get_or}
use Rattle.missing_round.specs.Words.{word, minus}
use Rattle.blind_core.proofs.rounds.take_away.Given as goal

-- the sums of the rounds so far
abbrev pub invariant-loop-round : goal.invariant-loop-round
invariant-loop-round l =
    (length l.next ≡ 8)
    × ((j : ℕ) → j < l.round → get_or l.next j 0 ≡ word (get_or l.sums j 0 + minus (get_or l.words j 0)))
