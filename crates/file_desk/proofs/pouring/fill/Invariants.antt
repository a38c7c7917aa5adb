use Rattle.std.proofs.Common.{◌≤◌, length}
use Rattle.file_desk.proofs.pouring.fill.Given as goal

abbrev pub invariant-loop : goal.invariant-loop
invariant-loop g l = l.count ≤ length l.buffer
