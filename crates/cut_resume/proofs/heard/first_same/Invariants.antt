use Rattle.std.proofs.Common.{◌≡◌, drop, take}
use Rattle.cut_resume.proofs.heard.first_same.Given as goal

abbrev pub invariant-loop-at : goal.invariant-loop-at
invariant-loop-at l = take l.at (drop l.from l.cut.entries) ≡ take l.at l.part.entries
