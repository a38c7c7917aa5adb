use Rattle.std.proofs.Common.{◌≡◌, ◌++◌, drop}
use Rattle.plan_files.specs.Gathering.{spans_of}
use Rattle.plan_files.proofs.gathering.member_spans.Given as goal

-- the spans so far, and those behind them
abbrev pub invariant-loop-entry : goal.invariant-loop-entry
invariant-loop-entry l = spans_of l.entries ≡ l.spans.items ++ spans_of (drop l.entry-index l.entries)
