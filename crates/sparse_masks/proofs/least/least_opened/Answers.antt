use Rattle.std.proofs.Common.{sym, subst}
use Rattle.std.specs.Prelude.{IfOk, reverse}
use Rattle.event_schedule.specs.Events.{events_of, lines_of}
use Rattle.frame_presence.proofs.PresenceLemmas.{shape_noted}
use Rattle.sparse_masks.specs.Opened.{IsLeastOpened}
use Rattle.sparse_masks.proofs.OpenedLemmas.{least-moved}
use Rattle.sparse_masks.proofs.least.least_opened.Goals as goal

pub replay_events-requires : goal.replay_events-requires
replay_events-requires c = sym c.in_ok-readings.ensures.plan_is

pub returns : goal.returns
returns c =
    let t = c.args.transcript.now in
    let x = c.in_ok-readings.readings in
    let events = events_of t.entries in
    subst (λ s. IfOk c.least_of_book.result (IsLeastOpened c.args.width s (reverse events))) (shape_noted t.plan (lines_of t.entries) x c.in_ok-readings.ensures)
    (least-moved x events c.args.width c.in_ok-book.book c.least_of_book.result c.in_ok-book.ensures.events c.least_of_book.ensures)
