use Rattle.std.proofs.Common.{◌≡◌, ◌++◌}
use Rattle.transcript_text.specs.Spelling.{members_text, spans_below}
use Rattle.transcript_text.proofs.head_writing.put_spans_of.Given as goal

abbrev pub invariant-loop-meter : goal.invariant-loop-meter
invariant-loop-meter l = l.out.items ≡ l.fn.out.items ++ members_text (spans_below l.plan l.group l.meter)
