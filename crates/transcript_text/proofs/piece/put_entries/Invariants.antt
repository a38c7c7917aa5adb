use Rattle.std.proofs.Common.{length}
use Rattle.transcript_text.specs.Ahead.{IsSoFar}
use Rattle.transcript_text.proofs.piece.put_entries.Given as goal

abbrev pub invariant-loop-rest : goal.invariant-loop-rest
invariant-loop-rest l = IsSoFar l.version l.plan l.text l.rest l.last l.entries.items

abbrev pub decreases-loop-rest : goal.decreases-loop-rest
decreases-loop-rest l = length l.rest
