use Rattle.std.proofs.Common.{◌≡◌, List}
use Rattle.std.specs.Prelude.{Some}
use Rattle.std.specs.List.{flat_map, range_with_len}
use Rattle.head_end.specs.declared.answers.Logged.{Logged}
use Rattle.head_end.specs.Head.{IsAfter}
use Rattle.head_end.specs.Lines.{by_groups, again_of}
use Rattle.head_end.proofs.head.HeadEnd.again.Given as goal

abbrev pub invariant-loop-round : goal.invariant-loop-round
invariant-loop-round l = (journal : List Logged) → IsAfter journal l.self → l.lines.items ≡ flat_map (λ r. by_groups l.self.plan (again_of l.self.plan journal) (Some r)) (range_with_len 0 l.round)
