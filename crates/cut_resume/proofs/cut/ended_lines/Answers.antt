use Rattle.std.proofs.Common.{sym}
use Rattle.cut_resume.proofs.LastLine.{bytes_before, last_ends}
use Rattle.cut_resume.proofs.cut.ended_lines.Goals as goal

pub returns-then-is_end-clause-bytes : goal.returns-then-is_end-clause-bytes
returns-then-is_end-clause-bytes c = bytes_before c.args.text.now c.in-Some.lines.now c.in-Some.field-0-1.now c.in-Some.ensures.0 c.in-Some.ensures.1

pub returns-then-is_end-clause-ended : goal.returns-then-is_end-clause-ended
returns-then-is_end-clause-ended c =
    last_ends c.args.text.now c.in-Some.lines.now c.in-Some.field-0-1.now c.in-Some.ensures.0 c.last_line.ensures.0 c.last_line.result.now c.last_line.ensures.1 (sym c.if-is_end.ensures)
