use Rattle.std.proofs.Common.{◌≡◌, ◌++◌, List}
use Rattle.std.specs.List.{flat_map, range_with_len}
use Rattle.head_end.specs.declared.answers.Logged.{Logged}
use Rattle.head_end.specs.Head.{IsAfter}
use Rattle.head_end.specs.Lines.{end_lines}
use Rattle.head_end.proofs.head.HeadEnd.add_ended.Given as goal

abbrev pub invariant-loop-group : goal.invariant-loop-group
invariant-loop-group l = (journal : List Logged) → IsAfter journal l.self → l.lines.items ≡ l.fn.lines.items ++ flat_map (end_lines l.self.plan journal l.round) (range_with_len 0 l.group)
