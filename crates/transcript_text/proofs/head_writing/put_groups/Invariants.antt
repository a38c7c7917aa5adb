use Rattle.std.proofs.Common.{◌≡◌, ◌++◌, take}
use Rattle.transcript_text.specs.Spelling.{groups_text}
use Rattle.transcript_text.proofs.head_writing.put_groups.Given as goal

abbrev pub invariant-loop-group : goal.invariant-loop-group
invariant-loop-group l = l.out.items ≡ l.fn.out.items ++ groups_text (take l.group-index l.groups)
