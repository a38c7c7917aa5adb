use Rattle.std.proofs.Common.{◌≡◌, ◌≤◌, length}
use Rattle.transcript_text.specs.Spelling.{spans_below}
use Rattle.transcript_text.proofs.entry_lines.stated_of.Given as goal

abbrev pub invariant-loop-meter : goal.invariant-loop-meter
invariant-loop-meter l = record {
  spans : l.stated ≡ length (spans_below l.plan l.group l.meter);
  few : l.stated ≤ l.meter;
}
