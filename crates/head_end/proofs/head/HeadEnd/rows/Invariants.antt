use Rattle.std.proofs.Common.{◌≡◌, List}
use Rattle.std.specs.List.{flat_map, range_with_len}
use Rattle.totals_report.specs.Reports.{group_rows}
use Rattle.head_end.specs.declared.answers.Logged.{Logged}
use Rattle.head_end.specs.Head.{IsAfter}
use Rattle.head_end.specs.Lines.{row_in}
use Rattle.head_end.proofs.head.HeadEnd.rows.Given as goal

abbrev pub invariant-loop-group : goal.invariant-loop-group
invariant-loop-group l = (journal : List Logged) → IsAfter journal l.self → l.rows.items ≡ flat_map (group_rows l.self.plan (row_in l.self.plan journal)) (range_with_len 0 l.group)
