use Rattle.std.proofs.Common.{◌∙◌, ap, sym, subst}
use Rattle.std.specs.List.{All}
use Rattle.group_plan.specs.Tables.{PresenceView}
use Rattle.event_schedule.specs.Events.{lines_of}
use Rattle.event_schedule.specs.Transcripts.{Fits, TranscriptView}
use Rattle.group_book.specs.Replay.{AreReplayed}
use Rattle.run_rows.specs.Ticks.{IsOrdered}
use Rattle.cut_resume.specs.Left.{entries_left}
use Rattle.cut_resume.proofs.ResumedLemmas.{all_kept, ordered_kept, replayed_kept, ticks_kept}
use Rattle.cut_resume.proofs.resume.follow.Goals as goal

pub remake-requires-clause-fits : goal.remake-requires-clause-fits
remake-requires-clause-fits c =
    let same = c.in_ok-run.ensures in
    let left = entries_left c.in_ok-left.left in
    all_kept (Fits c.args.cut.now.plan) c.args.cut.now.entries c.in_ok-run.run'.entries left c.in_ok-left.ensures.picks
    (subst (λ p. All (Fits p) c.in_ok-run.run'.entries) (ap (λ (t : TranscriptView). t.plan) same ∙ c.requires.plan) c.len.ensures.sound.fit)

pub remake-requires-clause-ticks : goal.remake-requires-clause-ticks
remake-requires-clause-ticks c =
    let same = c.in_ok-run.ensures in
    let left = entries_left c.in_ok-left.left in
    ticks_kept _ (ordered_kept c.args.cut.now.entries c.in_ok-run.run'.entries left c.in_ok-left.ensures.picks (subst (λ (t : TranscriptView). IsOrdered t.entries) (sym same) c.requires.ordered))

pub of_parts-book-requires : goal.of_parts-book-requires
of_parts-book-requires c =
    let same = c.in_ok-run.ensures in
    let left = entries_left c.in_ok-left.left in
    let parts = c.into_parts-presence in
    let groups = parts.result.groups.items in
    let here : AreReplayed parts.result.presence (lines_of c.in_ok-run.run'.entries) groups
    = subst (λ (p : PresenceView). AreReplayed p (lines_of c.in_ok-run.run'.entries) groups) (sym parts.ensures.presence)
    (subst (λ j. AreReplayed c.args.run.book.presence j groups) (c.requires.journal ∙ ap (λ (t : TranscriptView). lines_of t.entries) (sym same)) parts.ensures.groups) in
    subst (λ j. AreReplayed parts.result.presence j groups) (sym (c.in_ok-journal.ensures.made ∙ ap (λ (t : TranscriptView). lines_of t.entries) c.in_ok-journal.ensures.draft))
    (replayed_kept parts.result.presence groups c.args.cut.now.entries c.in_ok-run.run'.entries left c.in_ok-left.ensures.picks here)
