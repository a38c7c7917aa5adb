use Rattle.std.proofs.Common.{length}
use Rattle.desk_outside.specs.Sink.{HasSome, Takes}
use Rattle.desk_outside.proofs.sink.hand_over.Given as goal

-- the sink has some bytes, and one that takes what is left now has then taken all
abbrev pub invariant-loop-rest : goal.invariant-loop-rest
invariant-loop-rest g l = record {
  some : HasSome g.S.Sink.has l.sink;
  all : (full : _) → Takes g.S.Sink.has l.sink l.rest full → Takes g.S.Sink.has l.fn.sink l.bytes full;
}

abbrev pub decreases-loop-rest : goal.decreases-loop-rest
decreases-loop-rest g l = length l.rest
