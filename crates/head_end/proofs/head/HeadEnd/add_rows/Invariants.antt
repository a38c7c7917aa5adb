use Rattle.std.proofs.Common.{◌≡◌, ◌++◌, List, map}
use Rattle.std.specs.List.{range_with_len}
use Rattle.totals_report.specs.Reports.{report_row}
use Rattle.head_end.specs.declared.answers.Logged.{Logged}
use Rattle.head_end.specs.Head.{IsAfter}
use Rattle.head_end.specs.Lines.{row_in}
use Rattle.head_end.proofs.head.HeadEnd.add_rows.Given as goal

abbrev pub invariant-loop-round : goal.invariant-loop-round
invariant-loop-round l = (journal : List Logged) → IsAfter journal l.self
    → l.rows.items ≡ l.fn.rows.items ++ map (λ r. report_row l.self.plan l.group r (row_in l.self.plan journal l.group r)) (range_with_len 0 l.round)
