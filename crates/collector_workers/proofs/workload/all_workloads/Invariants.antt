use Rattle.std.proofs.Common.{◌≡◌, length, vec_capacity, vec_len}
use Rattle.collector_workers.specs.Gathering.{AreWorkloads}
use Rattle.collector_workers.proofs.workload.all_workloads.Given as goal

abbrev pub invariant-loop-worker : goal.invariant-loop-worker
invariant-loop-worker l = record {
  are : AreWorkloads l.batch l.workers l.workloads.items;
  many : length l.workloads.items ≡ l.worker;
  long : vec_len l.workloads ≡ l.worker;
  room : vec_capacity l.workloads ≡ l.workers;
}
