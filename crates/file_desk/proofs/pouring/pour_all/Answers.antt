use Rattle.std.proofs.Common.{◌++◌, rules}
use Rattle.file_desk.proofs.Poured.{piece_taken}
use Rattle.file_desk.proofs.pouring.pour_all.Goals as goal

pub loop-buffer-preserved : goal.loop-buffer-preserved
loop-buffer-preserved g c = record {
  some = (c.loop-buffer.invariant.some.0 ++ _, c.in_ok-sink.ensures c.loop-buffer.invariant.some.0 c.loop-buffer.invariant.some.1);
  taken = piece_taken g.S.Sink.has c.args.sink c.loop-buffer.sink c.in_ok-sink.sink c.loop-buffer.seen c.in_ok-count.count c.in_ok-seen.seen _ c.loop-buffer.invariant.taken c.in_ok-sink.ensures (search rules) (search rules);
  within = search rules;
}
