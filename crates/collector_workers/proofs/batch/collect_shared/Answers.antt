use Rattle.std.proofs.Common.{◌≡◌, ◌++◌, [], List, length, All, subst, sym, ap, ◌∙◌, arith}
use Rattle.event_schedule.specs.declared.Line.{Line}
use Rattle.transcript_log.specs.Lines.{HasOwnTag}
use Rattle.group_plan.specs.Tables.{PresenceView}
use Rattle.group_book.specs.Replay.{AreReplayed}
use Rattle.shared_book.specs.Ends.{opening, view}
use Rattle.shared_book.specs.Passes.{PassView, new_pass}
use Rattle.collector_workers.specs.declared.mark.Mark.{Mark}
use Rattle.collector_workers.specs.declared.outcome.Outcome.{Outcome}
use Rattle.collector_workers.specs.Outcomes.{lines_told}
use Rattle.collector_workers.specs.Gathering.{Gathers}
use Rattle.collector_workers.specs.Batch.{Collects}
use Rattle.collector_workers.proofs.Openings.{replayed, collected, own_tags, outcomes_long, marks_of}
use Rattle.collector_workers.proofs.batch.collect_shared.Goals as goal

pub take_down-requires-clause-room : goal.take_down-requires-clause-room
take_down-requires-clause-room g c =
    let outs : List Outcome = c.in-Ok.outcomes.items in
    let value : c.as_slice.result.now ≡ outs = c.as_slice.ensures.value in
    let long : length outs ≡ length c.args.batch.now = outcomes_long _ _ _ _ outs _ c.in-Ok.ensures.ends in
    let same = ap length value in
    let room = c.shut-parts.ensures.room in
    let mine = c.requires.room in
    let lines = mine.0 in
    let marks = mine.1 in
    (omega arith, omega arith)

pub take_down-requires-clause-own : goal.take_down-requires-clause-own
take_down-requires-clause-own g c =
    let outs : List Outcome = c.in-Ok.outcomes.items in
    subst (λ (xs : List Outcome). All HasOwnTag (lines_told xs)) (sym c.as_slice.ensures.value) (own_tags _ _ _ _ outs _ c.in-Ok.ensures.ends)

pub of_parts-book-requires : goal.of_parts-book-requires
of_parts-book-requires g c =
    let o = opening c.args.shared in
    let n = c.args.crew.now.workers.count in
    let w = view c.gather-gathered.new.first in
    let outs : List Outcome = c.in-Ok.outcomes.items in
    let some = c.args.crew.now.workers.within.0 in
    let ends = c.shut-parts.ensures.ends in
    let gathers : Gathers o (new_pass 0 []) c.args.batch.now n outs w = subst (λ (v : PassView). Gathers o v c.args.batch.now n outs w) c.requires.pass.1 c.in-Ok.ensures.ends in
    let lines : c.take_down.new.lines.items ≡ o.journal ++ lines_told outs = c.take_down.ensures.lines ∙ (λ i. ends.journal i ++ lines_told (c.as_slice.ensures.value i)) in
    subst (λ (x : PresenceView × List Line). AreReplayed x.0 x.1 c.shut-parts.result.groups.items) (λ i. (sym ends.presence i, sym lines i)) (replayed o c.args.batch.now n outs w c.shut-parts.result (omega arith) gathers ends)

pub returns-in-Ok : goal.returns-in-Ok
returns-in-Ok g c =
    let o = opening c.args.shared in
    let n = c.args.crew.now.workers.count in
    let w = view c.gather-gathered.new.first in
    let outs : List Outcome = c.in-Ok.outcomes.items in
    let some = c.args.crew.now.workers.within.0 in
    let ends = c.shut-parts.ensures.ends in
    let gathers : Gathers o (new_pass 0 []) c.args.batch.now n outs w = subst (λ (v : PassView). Gathers o v c.args.batch.now n outs w) c.requires.pass.1 c.in-Ok.ensures.ends in
    let lines : c.take_down.new.lines.items ≡ o.journal ++ lines_told outs = c.take_down.ensures.lines ∙ (λ i. ends.journal i ++ lines_told (c.as_slice.ensures.value i)) in
    let marks : c.take_down.new.marks.items ≡ marks_of outs = c.take_down.ensures.marks ∙ ap marks_of c.as_slice.ensures.value in
    let book = c.of_parts-book in
    subst (λ (ms : List Mark). Collects o c.args.batch.now ms c.of_parts-book.result) (sym marks)
    (collected o c.args.batch.now n outs w c.shut-parts.result (omega arith) gathers ends c.of_parts-book.result (book.ensures.presence ∙ ends.presence) (book.ensures.journal ∙ lines))
