use Rattle.std.proofs.Common.{ap, sym, subst, ◌∙◌}
use Rattle.std.specs.Prelude.{IfOk}
use Rattle.group_plan.specs.Plans.{PlanView}
use Rattle.link_lanes.specs.Racks.{slots}
use Rattle.mask_stream.specs.KeyStreams.{streams}
use Rattle.missing_round.specs.Masks.{Masks}
use Rattle.pair_keys.specs.Keys.{table_of}
use Rattle.sparse_masks.specs.Neighbours.{ring}
use Rattle.tick_run.specs.Finished.{IsFinishedUnder}
use Rattle.command_texts.specs.declared.sharing.Sharing.{Sharing}
use Rattle.command_texts.specs.Runs.{words_by}
use Rattle.run_commands.proofs.run_texts.run_shared.Goals as goal

pub returns-in-WithEach-clause-finished : goal.returns-in-WithEach-clause-finished
returns-in-WithEach-clause-finished g c =
    subst (λ (m : Masks). IfOk c.run_ahead.result (λ led. IsFinishedUnder c.args.readings.now m (slots (λ b. (goal.Lane-dyn g (b.vtable, b.value)).meaning b.value) c.args.rack.now) led.0.book led.0.transcript))
    (c.new-words.ensures.words ∙ ap (λ (s : Sharing). words_by s c.args.readings.now.plan (table_of c.args.plan.now.keys)) (sym c.in-WithEach.is))
    c.run_ahead.ensures.finished

pub returns-in-WithNeighbours-clause-finished : goal.returns-in-WithNeighbours-clause-finished
returns-in-WithNeighbours-clause-finished g c =
    subst (λ (m : Masks). IfOk c.run_ahead-in-WithNeighbours.result (λ led. IsFinishedUnder c.args.readings.now m (slots (λ b. (goal.Lane-dyn g (b.vtable, b.value)).meaning b.value) c.args.rack.now) led.0.book led.0.transcript))
    (c.new-masks.ensures.words
    ∙ ap (ring c.in-WithNeighbours.width c.args.plan.now.plan.groups) c.new-words.ensures.words
    ∙ ap (λ (plan : PlanView). ring c.in-WithNeighbours.width plan.groups (streams (table_of c.args.plan.now.keys))) (sym c.requires.readings)
    ∙ ap (λ (s : Sharing). words_by s c.args.readings.now.plan (table_of c.args.plan.now.keys)) (sym c.in-WithNeighbours.is))
    c.run_ahead-in-WithNeighbours.ensures.finished
