use Rattle.std.proofs.Common.{◌≡◌, take}
use Rattle.transcript_log.specs.Stretches.{stamps_in}
use Rattle.transcript_log.proofs.stretches.spell_out.Given as goal

-- the stretches so far are spelled out
abbrev pub invariant-loop-stretch : goal.invariant-loop-stretch
invariant-loop-stretch l = l.stamps.items ≡ stamps_in (take l.stretch-index l.stretches)
