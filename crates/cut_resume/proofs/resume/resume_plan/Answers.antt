use Rattle.std.proofs.Common.{sym, ◌∙◌, subst}
use Rattle.missing_round.specs.Masks.{Masks}
use Rattle.pair_keys.specs.Keys.{table_of}
use Rattle.link_lanes.specs.Racks.{slots}
use Rattle.tick_run.specs.Finished.{IsFinishedUnder}
use Rattle.cut_resume.proofs.ResumedLemmas.{resume_ends, resumed_itself}
use Rattle.cut_resume.proofs.resume.resume_plan.Goals as goal

pub returns-then-is_in_order : goal.returns-then-is_in_order
returns-then-is_in_order g c =
    let first = slots (λ b. (goal.Lane-dyn g (b.vtable, b.value)).meaning b.value) c.args.rack.now in
    let run = c.in_ok-run.field-0.run in
    resumed_itself c.args.readings.now (table_of c.args.keys.now) first run c.args.cut.now
    (subst (λ (m : Masks). IsFinishedUnder c.args.readings.now m first run.book run.transcript) c.new-masks.ensures.words c.in_ok-run.ensures.finished)
    c.in_ok-run.ensures.report (c.in_ok-run.ensures.order c.if-is_in_order.true)

pub returns : goal.returns
returns g c =
    let first = slots (λ b. (goal.Lane-dyn g (b.vtable, b.value)).meaning b.value) c.args.rack.now in
    let run = c.in_ok-run.field-0.run in
    resume_ends c.args.readings.now (table_of c.args.keys.now) first run c.args.cut.now c.follow.result (c.requires.cut ∙ sym c.requires.readings)
    (subst (λ (m : Masks). IsFinishedUnder c.args.readings.now m first run.book run.transcript) c.new-masks.ensures.words c.in_ok-run.ensures.finished)
    c.follow.ensures.members c.follow.ensures.follows
