use Rattle.std.proofs.Common.{◌≡◌, ◌≤◌, ◌+◌, length, None, []}
use Rattle.field_texts.specs.Parts.{parts}
use Rattle.transcript_text.specs.Heads.{AreStated, head_from, last_span}
use Rattle.transcript_text.proofs.head.later_lines.Given as goal

abbrev pub invariant-loop-line : goal.invariant-loop-line
invariant-loop-line l = record {
  few : l.n + length l.rest ≤ 4 + length l.fn.bytes;
  last : l.last ≡ last_span None l.spans.items;
  stated : AreStated l.start.rounds l.groups.items None l.spans.items;
  so_far : head_from l.version l.start l.n l.last l.groups.items l.spans.items (parts 10 l.rest) ≡ head_from l.version l.start 4 None [] [] (parts 10 l.fn.bytes);
}

abbrev pub decreases-loop-line : goal.decreases-loop-line
decreases-loop-line l = length l.rest
