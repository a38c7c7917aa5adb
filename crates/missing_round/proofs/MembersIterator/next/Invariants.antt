use Rattle.std.proofs.Common.{◌≡◌, ◌-◌}
use Rattle.missing_round.specs.Sets.{members, IsFrom}
use Rattle.missing_round.proofs.MembersIterator.next.Given as goal

abbrev pub invariant-loop-self : goal.invariant-loop-self
invariant-loop-self l = IsFrom l.self-inside.at l.self-inside.blocks × (members l.self-inside.blocks ≡ l.fn.self)

abbrev pub decreases-loop-self : goal.decreases-loop-self
decreases-loop-self l = 4 - l.self-inside.at
