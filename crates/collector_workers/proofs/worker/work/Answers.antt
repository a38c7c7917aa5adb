use Rattle.std.proofs.Common.{◌+◌, ap, ◌∙◌, arith}
use Rattle.shared_book.specs.Ends.{opening}
use Rattle.collector_workers.proofs.Told.{worked_more}
use Rattle.collector_workers.proofs.worker.work.Goals as goal

pub loop-place-preserved : goal.loop-place-preserved
loop-place-preserved g c =
    let inv = c.loop-place.invariant in
    let e = c.commit_one.ensures in
    let a = c.args.worker.now in
    let b = c.loop-place.worker in
    let lt = c.loop-place-test.true in
    let end = c.len-place-end.ensures in
    let room = e.room in
    let long = inv.long in
    let capacity = inv.room in
    let lines = inv.lines in record {
      pass = e.pass;
      does = worked_more (opening c.args.shared.now) a b c.commit_one.new.worker c.loop-place.place (omega arith) inv.does e.committed;
      long = room.1 ∙ ap (λ n. n + 1) long;
      room = omega arith;
      lines = omega arith;
    }
