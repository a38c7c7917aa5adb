use Rattle.std.proofs.Common.{◌≤◌, ◌-◌}
use Rattle.desk_outside.specs.Sink.{HasSome}
use Rattle.file_desk.specs.Pouring.{TakesCount}
use Rattle.file_desk.proofs.pouring.pour_all.Given as goal

abbrev pub invariant-loop-buffer : goal.invariant-loop-buffer
invariant-loop-buffer g l = record {
  some : HasSome g.S.Sink.has l.sink;
  taken : TakesCount g.S.Sink.has l.fn.sink l.seen l.sink;
  within : l.seen ≤ l.most;
}

abbrev pub decreases-loop-buffer : goal.decreases-loop-buffer
decreases-loop-buffer g l = l.most - l.seen
