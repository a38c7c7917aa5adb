use Rattle.std.proofs.Common.{◌≡◌, ◌+◌, ◌<◌, ℕ, length, slice_index_or}
use Rattle.shared_book.specs.Ends.{IsPassOf, view}
use Rattle.collector_workers.specs.declared.worker.Worker.{Worker}
use Rattle.collector_workers.specs.Gathering.{JoinsAll}
use Rattle.collector_workers.proofs.worker.join_all.Given as goal

abbrev pub invariant-loop-worker : goal.invariant-loop-worker
invariant-loop-worker l = record {
  can_next : (goal.iterator-loop-worker).can_next l.worker-iterator;
  finite : (goal.iterator-loop-worker).is_finite l.worker-iterator;
  pass : IsPassOf l.shared l.first;
  joins : JoinsAll (view l.fn.first) l.yielded (view l.first);
  numbers : (k : ℕ) (d : Worker) → k < length l.yielded → (view (slice_index_or l.yielded k d).pass).number + length l.fn.workers.items ≡ (view l.fn.first).made + 1 + k;
}
