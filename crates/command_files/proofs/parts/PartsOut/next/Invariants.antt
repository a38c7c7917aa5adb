use Rattle.std.proofs.Common.{◌≡◌}
use Rattle.rtrb.specs.Ring.{received, SameConsumer}
use Rattle.command_files.proofs.parts.PartsOut.next.Given as goal

-- nothing came out
abbrev pub invariant-loop : goal.invariant-loop
invariant-loop g l = SameConsumer l.fn.self.ring l.self.ring × (received l.self.ring ≡ received l.fn.self.ring)
