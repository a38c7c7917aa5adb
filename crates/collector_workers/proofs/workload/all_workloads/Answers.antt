use Rattle.std.proofs.Common.{◌+◌, List, length, ap, sym, subst, ◌∙◌}
use Rattle.std.proofs.lemmas.List.{length_push}
use Rattle.collector_workers.specs.declared.workload.Workload.{Workload}
use Rattle.collector_workers.specs.Gathering.{IsWorkloadFor, AreWorkloads}
use Rattle.collector_workers.proofs.Joins.{workloads_more}
use Rattle.collector_workers.proofs.workload.all_workloads.Goals as goal

pub loop-worker-preserved : goal.loop-worker-preserved
loop-worker-preserved c =
    let i = c.loop-worker.invariant in
    let n = c.args.workers in
    let batch = c.args.batch.now in
    let workloads : List Workload = c.loop-worker.workloads.items in
    let workload : Workload = c.in_ok-workload.workload in
    let p = c.push_reserved.ensures in
    let new : IsWorkloadFor batch n (length workloads) workload = subst (λ k. IsWorkloadFor batch n k workload) (sym i.many) c.in_ok-workload.ensures in record {
      are = subst (λ (ds : List Workload). AreWorkloads batch n ds) (sym p.items) (workloads_more batch n workloads workload i.are new);
      many = ap length p.items ∙ length_push workloads workload ∙ ap (λ k. k + 1) i.many;
      long = p.len ∙ ap (λ k. k + 1) i.long;
      room = p.capacity ∙ i.room;
    }
