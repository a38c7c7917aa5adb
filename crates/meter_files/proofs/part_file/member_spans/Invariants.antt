use Rattle.std.proofs.Common.{◌≡◌, ◌++◌, drop}
use Rattle.meter_files.specs.PartFiles.{spans_of}
use Rattle.meter_files.proofs.part_file.member_spans.Given as goal

-- the spans so far, and those behind them
abbrev pub invariant-loop-entry : goal.invariant-loop-entry
invariant-loop-entry l = spans_of l.entries ≡ l.spans.items ++ spans_of (drop l.entry-index l.entries)
