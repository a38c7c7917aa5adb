use Rattle.std.proofs.Common.{◌≡◌, take}
use Rattle.totals_report.specs.Texts.{rows_text}
use Rattle.totals_report.proofs.writing.rows_text.Given as goal

abbrev pub invariant-loop-row : goal.invariant-loop-row
invariant-loop-row l = l.text.items ≡ rows_text (take l.row-index l.rows)
