use Rattle.std.proofs.Common.{◌≡◌, ◌≤◌, take}
use Rattle.std.specs.List.{count_by}
use Rattle.run_rows.specs.Summary.{is_sending, is_taking}
use Rattle.totals_report.proofs.counts.count_lines.Given as goal

abbrev pub invariant-loop-at : goal.invariant-loop-at
invariant-loop-at l = record {
  sends : l.sends ≡ count_by is_sending (take l.at l.lines.items);
  takes : l.takes ≡ count_by is_taking (take l.at l.lines.items);
  few_sends : l.sends ≤ l.at;
  few_takes : l.takes ≤ l.at;
}
