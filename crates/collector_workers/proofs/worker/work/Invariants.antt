use Rattle.std.proofs.Common.{◌≡◌, ◌≤◌, ◌+◌, take, length, vec_capacity, vec_len}
use Rattle.shared_book.specs.Ends.{opening, IsPassOf}
use Rattle.collector_workers.specs.Gathering.{Does}
use Rattle.collector_workers.proofs.worker.work.Given as goal

abbrev pub invariant-loop-place : goal.invariant-loop-place
invariant-loop-place g l = record {
  pass : IsPassOf l.shared l.worker.pass;
  does : Does (opening l.shared) l.fn.worker (take l.place l.fn.worker.workload.parcels.items) l.worker;
  long : vec_len l.worker.workload.outcomes ≡ l.place;
  room : length l.fn.worker.workload.parcels.items ≤ vec_capacity l.worker.workload.outcomes;
  lines : length l.fn.worker.workload.parcels.items ≤ l.place + l.worker.workload.lines.spare;
}
