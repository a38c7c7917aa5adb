use Rattle.std.proofs.Common.{subst}
use Rattle.std.specs.Prelude.{IfOk}
use Rattle.missing_round.specs.Masks.{Masks}
use Rattle.link_lanes.specs.Racks.{slots}
use Rattle.tick_run.specs.Finished.{IsFinishedUnder}
use Rattle.tick_run.proofs.plan_run.run_plan.Goals as goal

pub returns-clause-finished : goal.returns-clause-finished
returns-clause-finished g c =
    subst (λ (m : Masks). IfOk c.run_masked.result (λ f. IsFinishedUnder c.args.readings.now m (slots (λ b. (goal.Lane-dyn g (b.vtable, b.value)).meaning b.value) c.args.rack.now) f.book f.transcript)) c.new-masks.ensures.words
    c.run_masked.ensures.finished
