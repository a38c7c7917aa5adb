use Rattle.std.proofs.Common.{◌-◌, ◌≤◌}
use Rattle.register_words.proofs.SideLemmas.{Further}
use Rattle.register_words.proofs.side.row_of_words.Given as goal

-- the words so far
abbrev pub invariant-loop-register : goal.invariant-loop-register
invariant-loop-register l = (1 ≤ l.register) × Further l.words (l.register - 1) l.further
