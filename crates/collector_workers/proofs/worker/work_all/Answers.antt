use Rattle.std.proofs.Common.{◌≡◌, length, rules, subst}
use denote.Param.Send.{sendable}
use Rattle.std.proofs.Crossing.{crosses}
use Rattle.collector_workers.specs.declared.worker.Worker.{Worker}
use Rattle.collector_workers.specs.Gathering.{Works}
use Rattle.collector_workers.proofs.Crossings.{worker_send, book_sync}
use Rattle.collector_workers.proofs.worker.work_all.Goals as goal

pub for_each_mut-requires-send-T : goal.for_each_mut-requires-send-T
for_each_mut-requires-send-T g c κs q = search (sendable, crosses, worker_send) depth 60

pub for_each_mut-requires-sync-F : goal.for_each_mut-requires-sync-F
for_each_mut-requires-sync-F g c κs q = search (sendable, crosses, book_sync, c.type_bounds) depth 60

pub returns : goal.returns
returns g c =
    let long : length c.for_each_mut.new.s ≡ length c.args.workers.now = search rules in (
      long,
      λ k d lt.
          let change = (c.for_each_mut.ensures k d lt).1 in
          subst (λ (x : Worker × Worker). Works c.args.shared.now x.0 x.1) (λ i. (change.argument_is i, change.left i)) change.call,
    )
