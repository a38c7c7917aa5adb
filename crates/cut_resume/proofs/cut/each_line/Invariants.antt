use Rattle.std.proofs.Common.{◌≡◌, ◌≤◌, ◌+◌, length}
use Rattle.std.specs.Prelude.{◌||◌}
use Rattle.std.specs.List.{list_any}
use Rattle.field_texts.specs.Parts.{parts}
use Rattle.cut_resume.specs.Cut.{after_begin, is_end, whole_lines}
use Rattle.cut_resume.proofs.WholeLines.{after_all, last_part}
use Rattle.cut_resume.proofs.cut.each_line.Given as goal

abbrev pub invariant-loop-line : goal.invariant-loop-line
invariant-loop-line l = record {
  few : l.seen.after_begin + length l.rest ≤ length l.text;
  last : last_part (parts 10 l.rest) ≡ last_part (parts 10 l.text);
  ended : (l.seen.is_ended || list_any is_end (whole_lines l.rest)) ≡ list_any is_end (whole_lines l.text);
  after : after_all l.seen.is_begun l.seen.after_begin (whole_lines l.rest) ≡ after_begin (whole_lines l.text);
}

abbrev pub decreases-loop-line : goal.decreases-loop-line
decreases-loop-line l = length l.rest
