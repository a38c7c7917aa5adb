use Rattle.std.proofs.Common.{◌≡◌}
use Rattle.rtrb.specs.Ring.{sent, SameProducer}
use Rattle.command_files.proofs.parts.PartsIn.has_room.Given as goal

-- nothing went in
abbrev pub invariant-loop : goal.invariant-loop
invariant-loop g l = SameProducer l.fn.self.ring l.self.ring × (sent l.self.ring ≡ sent l.fn.self.ring)
