use Rattle.std.proofs.Common.{◌≡◌, ◌+◌, ◌++◌, ◌∷◌, [], List, length, ap, sym, subst, ◌∙◌, refl, arith}
use Rattle.std.proofs.lemmas.List.{length_push}
use Rattle.shared_book.specs.Ends.{view}
use Rattle.shared_book.specs.Passes.{PassView, new_pass}
use Rattle.collector_workers.specs.declared.worker.Worker.{Worker}
use Rattle.collector_workers.specs.declared.workload.Workload.{Workload}
use Rattle.collector_workers.specs.Gathering.{IsNewWorker, AreNewWorkers}
use Rattle.collector_workers.proofs.Joins.{workers_more, splits_more}
use Rattle.collector_workers.proofs.worker.split_all.Goals as goal

pub loop-workload-preserved : goal.loop-workload-preserved
loop-workload-preserved c =
    let i = c.loop-workload.invariant in
    let shared = c.args.shared.now in
    let v = view c.args.first.now in
    let w = view c.loop-workload.first in
    let ends = c.split-pass.ensures.ends in
    let done : List Workload = c.loop-workload.yielded in
    let workers : List Worker = c.loop-workload.workers.items in
    let workload : Workload = c.in-Some.workload in
    let worker : Worker = record { pass = c.split-pass.result; workload = workload } in
    let p = c.push_reserved.ensures in
    let made : w.made ≡ v.made + length done = ap (λ (x : PassView). x.made) i.splits in
    let seen : w.seen ≡ v.seen = ap (λ (x : PassView). x.seen) i.splits in
    let number : w.made + 1 ≡ v.made + 1 + length workers = (let e = i.new.0 in omega arith) in
    let is : IsNewWorker shared v (v.made + 1 + length workers) workload worker = (c.split-pass.ensures.passes.1, ends.second ∙ (λ k. new_pass (number k) (seen k)), refl) in record {
      can_next = tt;
      finite = tt;
      pass = c.split-pass.ensures.passes.0;
      splits = splits_more v w (view c.split-pass.new.pass) done workload i.splits ends.first;
      new = subst (λ (ws : List Worker). AreNewWorkers shared v (done ++ workload ∷ []) ws) (sym p.items) (workers_more shared v done workers workload worker i.new is);
      long = p.len ∙ ap (λ k. k + 1) i.long ∙ sym (length_push done workload);
      room = p.capacity ∙ i.room;
    }
