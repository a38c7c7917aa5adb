use Rattle.std.proofs.Common.{◌≡◌, take}
use Rattle.collector_workers.specs.Outcomes.{parcels_for}
use Rattle.collector_workers.proofs.workload.parcels_for.Given as goal

abbrev pub invariant-loop-place : goal.invariant-loop-place
invariant-loop-place l = l.parcels.items ≡ parcels_for l.workers l.worker (take l.place l.batch)
