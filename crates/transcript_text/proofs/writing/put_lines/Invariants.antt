use Rattle.std.proofs.Common.{◌≡◌, ◌<◌, ◌++◌, length}
use Rattle.transcript_text.specs.Writing.{lines_from}
use Rattle.transcript_text.proofs.writing.put_lines.Given as goal

abbrev pub invariant-loop-at : goal.invariant-loop-at
invariant-loop-at l = record {
  text : l.out.items ++ lines_from l.transcript.entries l.at ≡ l.fn.out.items ++ lines_from l.transcript.entries l.from;
  some : l.from < l.at → 0 < length l.out.items;
}
