use Rattle.std.proofs.Common.{◌≡◌, ◌++◌, take}
use Rattle.apart_roles.specs.HeadEndTurns.{lines_text}
use Rattle.apart_roles.proofs.saying.put_lines.Given as goal

abbrev pub invariant-loop-line : goal.invariant-loop-line
invariant-loop-line l = l.out.items ≡ l.fn.out.items ++ lines_text l.plan (take l.line-index l.lines)
