use Rattle.std.proofs.Common.{ap, length, subst, sym, ◌∙◌}
use Rattle.event_schedule.specs.Transcripts.{TranscriptView}
use Rattle.tick_run.proofs.RunLemmas.{finished-of}
use Rattle.cut_resume.specs.Heard.{AreFirst}
use Rattle.cut_resume.proofs.HeardLemmas.{all_heard}
use Rattle.cut_resume.proofs.heard.run_beside.Goals as goal

pub returns-clause-finished : goal.returns-clause-finished
returns-clause-finished g c =
    let over = c.in_ok-over.over in
    let begins = c.in_ok-begun.ensures.begins in
    finished-of g.M.Masks.table over c.args.readings.now c.args.masks.now _ _ _ (c.in_ok-over.ensures.same.0 ∙ ap (λ v. v.readings) begins) (c.in_ok-over.ensures.same.1 ∙ ap (λ v. v.masks) begins)
    (c.in_ok-run.ensures.finished _ _ _ (c.in_ok-over.ensures.met _ c.in_ok-begun.ensures.met))

pub returns-clause-report : goal.returns-clause-report
returns-clause-report g c = c.in_ok-run.ensures.report _ _ _ (c.in_ok-over.ensures.met _ c.in_ok-begun.ensures.met)

pub returns-clause-order : goal.returns-clause-order
returns-clause-order g c = λ all.
    subst (λ (t : TranscriptView). AreFirst c.args.cut.now.entries t.entries (length c.args.cut.now.entries)) (sym c.in_ok-run.ensures.transcript)
    (all_heard c.args.cut.now.entries c.in_ok-over.over.entries _ (c.has_all-is_in_order.ensures all) c.in_ok-over.ensures.heard)
