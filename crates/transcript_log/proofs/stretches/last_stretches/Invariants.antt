use Rattle.std.proofs.Common.{◌≡◌, ◌≤◌, drop, length}
use Rattle.transcript_log.specs.Stretches.{stamps_in}
use Rattle.transcript_log.proofs.stretches.last_stretches.Given as goal

-- the length is that of the stamps from the place on
abbrev pub invariant-loop-len : goal.invariant-loop-len
invariant-loop-len l = record {
  place : l.at ≤ length l.stretches;
  len : l.len ≡ length (stamps_in (drop l.at l.stretches));
}

abbrev pub decreases-loop-len : goal.decreases-loop-len
decreases-loop-len l = l.at
