use Rattle.std.proofs.Common.{◌++◌, ℕ, List, sym, ap, ◌∙◌}
use Rattle.meter_frames.specs.declared.Frame.{Frame}
use Rattle.group_book.specs.Replay.{book_at}
use Rattle.plan_meters.specs.Sent.{readings_at, answers_at}
use Rattle.tick_run.specs.Jobs.{announcements_due}
use Rattle.tick_run.proofs.GroupCalls.{on_ok}
use Rattle.tick_run.proofs.group_tick.add_due.Goals as goal

pub returns : goal.returns
returns g c = λ p j rep plan.
    let readings = c.args.known.now.readings.now in
    let m = g.M.Masks.table c.args.known.now.masks.now in
    let t = c.args.tick in
    let group = c.args.pages.now.group in
    let heard = c.args.heard.now in
    let all : ℕ → List Frame → List Frame = λ h l. l ++ answers_at readings.plan m heard h in
    let announced = c.in_ok-announce.ensures p j rep (plan ∙ sym c.plan.ensures.plan) in
    let first = c.in_ok-add_reading_frames.ensures ∙ ap (λ (h : ℕ). c.args.frames.now.items ++ readings_at readings m t h) c.group-group.ensures in
    on_ok c.add_answer_frames.result
    (λ done. done ∙ ap (λ h. all h c.announce.new.frames.items) c.group-group.ensures ∙ ap (all group) (announced ∙ ap (λ (l : List Frame). l ++ announcements_due (book_at p j 0) t group) first)) c.add_answer_frames.ensures
