use Rattle.std.proofs.Common.{◌≡◌, ◌≤◌, ◌<◌, ℕ, take, length, slice_index_or, vec_capacity, vec_len}
use Rattle.collector_workers.specs.declared.worker.Worker.{Worker}
use Rattle.collector_workers.specs.Gathering.{told_by}
use Rattle.collector_workers.proofs.worker.merge.Given as goal

abbrev pub invariant-loop-place : goal.invariant-loop-place
invariant-loop-place l = record {
  same : length l.taken ≡ length l.workers;
  told : (k : ℕ) (d : Worker) → k < length l.workers → told_by (length l.workers) k (take l.place l.batch) l.outcomes.items ≡ take (slice_index_or l.taken k 0) (slice_index_or l.workers k d).workload.outcomes.items;
  within : (k : ℕ) (d : Worker) → k < length l.workers → slice_index_or l.taken k 0 ≤ length (slice_index_or l.workers k d).workload.outcomes.items;
  listed : length l.outcomes.items ≡ l.place;
  long : vec_len l.outcomes ≡ l.place;
  room : vec_capacity l.outcomes ≡ vec_capacity l.fn.outcomes;
}
