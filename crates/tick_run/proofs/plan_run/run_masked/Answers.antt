use Rattle.std.proofs.Common.{ap, sym, ◌∙◌}
use Rattle.run_rows.specs.Ticks.{posts_of}
use Rattle.event_schedule.specs.Transcripts.{TranscriptView}
use Rattle.tick_run.proofs.RunLemmas.{finished-of}
use Rattle.tick_run.proofs.plan_run.run_masked.Goals as goal

pub returns-clause-finished : goal.returns-clause-finished
returns-clause-finished g c =
    let over = c.in_ok-over.over in
    let begins = c.in_ok-begun.ensures.begins in
    finished-of g.M.Masks.table over c.args.readings.now c.args.masks.now _ _ _ (c.in_ok-over.ensures.same.0 ∙ ap (λ v. v.readings) begins) (c.in_ok-over.ensures.same.1 ∙ ap (λ v. v.masks) begins)
    (c.in_ok-finish.ensures.finished _ _ _ (c.in_ok-over.ensures.met _ c.in_ok-begun.ensures.met))

pub returns-clause-posts : goal.returns-clause-posts
returns-clause-posts g c =
    (c.in_ok-over.ensures.met _ c.in_ok-begun.ensures.met).posts_are ∙ ap (λ (t : TranscriptView). posts_of t.entries) (sym c.in_ok-finish.ensures.transcript)

pub returns-clause-report : goal.returns-clause-report
returns-clause-report g c = c.in_ok-finish.ensures.report _ _ _ (c.in_ok-over.ensures.met _ c.in_ok-begun.ensures.met)
