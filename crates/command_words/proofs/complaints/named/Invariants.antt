use Rattle.std.proofs.Common.{◌≡◌, ◌++◌, take}
use Rattle.command_words.specs.Outcomes.{shown_name}
use Rattle.command_words.proofs.complaints.named.Given as goal

-- the bytes so far are shown
abbrev pub invariant-loop-byte : goal.invariant-loop-byte
invariant-loop-byte l = l.text.items ≡ l.before ++ shown_name (take l.byte-index l.name)
