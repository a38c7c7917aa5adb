use Rattle.std.proofs.Common.{◌≡◌, ap, subst, ◌∙◌}
use Rattle.group_plan.specs.Tables.{ReadingsView}
use Rattle.link_lanes.specs.Racks.{slots}
use Rattle.missing_round.specs.Masks.{Masks}
use Rattle.tick_run.specs.Finished.{IsFinishedUnder}
use Rattle.command_files.proofs.leading.run_ahead.Goals as goal

pub returns-clause-finished : goal.returns-clause-finished
returns-clause-finished g c =
    let over = c.in-Ok.value.0 in
    let f = c.in_ok-finished.finished in
    let first = slots (λ b. (goal.Lane-dyn g (b.vtable, b.value)).meaning b.value) c.args.rack.now in
    let begins = c.in_ok-begun.ensures.begins in
    let readings : over.readings ≡ c.args.readings.now = c.in-Ok.ensures.same.0 ∙ ap (λ v. v.readings) begins in
    let masks : over.masks ≡ c.args.masks.now = c.in-Ok.ensures.same.1 ∙ ap (λ v. v.masks) begins in
    subst (λ (m : Masks). IsFinishedUnder c.args.readings.now m first f.book f.transcript) (ap g.M.Masks.table masks)
    (subst (λ (x : ReadingsView). IsFinishedUnder x (g.M.Masks.table over.masks) first f.book f.transcript) readings
    (c.in_ok-finished.ensures.finished _ _ _ (c.in-Ok.ensures.met _ c.in_ok-begun.ensures.met)))
