use Rattle.std.proofs.Common.{◌≡◌, take}
use Rattle.blind_core.specs.Columns.{column}
use Rattle.plan_meters.proofs.hidden.words_in_round.Given as goal

-- the words of the meters so far
abbrev pub invariant-loop-word : goal.invariant-loop-word
invariant-loop-word l = l.row.items ≡ column 0 l.later (take l.word-index l.words)
