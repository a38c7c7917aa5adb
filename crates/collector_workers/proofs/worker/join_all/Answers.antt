use Rattle.std.proofs.Common.{◌≡◌, ◌+◌, List, length, ap, ◌∙◌}
use Rattle.std.proofs.lemmas.Iterator.Adapters.{YieldsList-from_vec}
use Rattle.std.proofs.lemmas.Iterator.Consumers.{YieldsList-turn}
use Rattle.shared_book.specs.Ends.{view}
use Rattle.collector_workers.specs.declared.worker.Worker.{Worker}
use Rattle.collector_workers.proofs.Joins.{joins_more, last_more, apart_last}
use Rattle.collector_workers.proofs.worker.join_all.Goals as goal

pub loop-worker-preserved : goal.loop-worker-preserved
loop-worker-preserved c =
    let workers : List Worker = c.args.workers.items in
    let at = c.into_iter-worker-iterator.ensures.into_iter_gives in
    let turn = YieldsList-turn (YieldsList-from_vec {s = c.into_iter-worker-iterator.result} workers at.0 (at.1 ∙ c.args.workers.ok.0)) c.loop-worker.yielded c.loop-worker.worker-iterator c.loop-worker.yielded_by c.next.result c.next.new.self c.in-Some.worker c.in-Some.is c.next.ensures.steps in
    let i = c.loop-worker.invariant in
    let v = view c.args.first.now in
    let done : List Worker = c.loop-worker.yielded in
    let x : Worker = c.in-Some.worker in
    let last : (view x.pass).number + length workers ≡ v.made + 1 + length done = ap (λ (w : Worker). (view w.pass).number + length workers) turn.1 ∙ c.requires.numbers (length done) x turn.0 in record {
      can_next = tt;
      finite = tt;
      pass = c.join.ensures.pass;
      joins = joins_more v (view c.loop-worker.first) (view c.join.new.pass) done x i.joins c.join.ensures.ends (apart_last v (length workers) done x i.numbers last);
      numbers = last_more v (length workers) done x i.numbers last;
    }
