use Rattle.std.proofs.Common.{◌≡◌, ◌≤◌, ◌+◌, length}
use Rattle.field_texts.specs.Parts.{parts}
use Rattle.totals_report.specs.Reading.{rows_from}
use Rattle.totals_report.proofs.LineLemmas.{onto}
use Rattle.totals_report.proofs.reading.rows.Given as goal

abbrev pub invariant-loop-line : goal.invariant-loop-line
invariant-loop-line l = record {
  few : l.number + length l.rest ≤ 2 + length l.fn.text;
  so_far : onto l.rows.items (rows_from l.number (parts 10 l.rest)) ≡ rows_from 2 (parts 10 l.fn.text);
}

abbrev pub decreases-loop-line : goal.decreases-loop-line
decreases-loop-line l = length l.rest
