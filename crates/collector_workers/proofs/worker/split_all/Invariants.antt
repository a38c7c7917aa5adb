use Rattle.std.proofs.Common.{◌≡◌, length, vec_len, vec_capacity}
use Rattle.shared_book.specs.Ends.{IsPassOf, view}
use Rattle.collector_workers.specs.Gathering.{SplitsAll, AreNewWorkers}
use Rattle.collector_workers.proofs.worker.split_all.Given as goal

abbrev pub invariant-loop-workload : goal.invariant-loop-workload
invariant-loop-workload l = record {
  can_next : (goal.iterator-loop-workload).can_next l.workload-iterator;
  finite : (goal.iterator-loop-workload).is_finite l.workload-iterator;
  pass : IsPassOf l.shared l.first;
  splits : SplitsAll (view l.fn.first) (length l.yielded) (view l.first);
  new : AreNewWorkers l.shared (view l.fn.first) l.yielded l.workers.items;
  long : vec_len l.workers ≡ length l.yielded;
  room : vec_capacity l.workers ≡ vec_capacity l.fn.workers;
}
