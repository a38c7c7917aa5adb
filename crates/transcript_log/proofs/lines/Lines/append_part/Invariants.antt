use Rattle.std.proofs.Common.{◌≡◌, ◌+◌, ◌-◌, ◌≤◌, ◌++◌, take, drop}
use Rattle.transcript_log.proofs.lines.Lines.append_part.Given as goal

-- the lines so far, with those that are left, have all of the part, and there is room for those that are left
abbrev pub invariant-loop-at : goal.invariant-loop-at
invariant-loop-at l = record {
  lines : l.self.items ++ take (l.to - l.at) (drop l.at l.others.items) ≡ l.fn.self.items ++ take (l.to - l.from) (drop l.from l.others.items);
  room : l.to ≤ l.self.spare + l.at;
}
