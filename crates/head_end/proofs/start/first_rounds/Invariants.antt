use Rattle.std.proofs.Common.{◌≡◌, map}
use Rattle.std.specs.List.{range_with_len}
use Rattle.head_end.specs.Kept.{first_round_at}
use Rattle.head_end.proofs.start.first_rounds.Given as goal

abbrev pub invariant-loop-at : goal.invariant-loop-at
invariant-loop-at l = l.rounds.items ≡ map (first_round_at l.plan) (range_with_len 0 l.at)
