use Rattle.std.proofs.Common.{◌∙◌, arith}
use Rattle.ideal_masks.proofs.ReplayLemmas.{replaying-none, replaying-more, replaying-event, replayed}
use Rattle.ideal_masks.proofs.replay.replay_events.Goals as goal

pub loop-at-init : goal.loop-at-init
loop-at-init c =
    let room = c.in_ok-reserve.ensures.room in
    let long = c.len-len.ensures.len in
    replaying-none c.args.readings.now c.args.transcript.now.entries c.in_ok-book.book c.reserve.new.self
    (c.in_ok-book.ensures.presence ∙ c.in_ok-presence.ensures) c.in_ok-book.ensures.journal c.reserve.ensures.presence c.reserve.ensures.journal (omega (arith, room, long))

pub make_event-requires-clause-spare : goal.make_event-requires-clause-spare
make_event-requires-clause-spare c =
    let room = c.loop-at.invariant.spare in
    let long = c.len-len.ensures.len in
    omega (arith, room, long)

pub make_event-requires-clause-event : goal.make_event-requires-clause-event
make_event-requires-clause-event c =
    let long = c.len-len.ensures.len in
    replaying-event c.args.readings.now c.args.transcript.now c.loop-at.at c.entry-entry.result c.event.result c.loop-at.book
    c.len-len.ensures.sound c.requires c.entry-entry.ensures (omega (arith, long)) c.event.ensures c.loop-at.invariant

pub make_event-requires-clause-blank : goal.make_event-requires-clause-blank
make_event-requires-clause-blank c = c.loop-at.invariant.blank

pub loop-at-preserved : goal.loop-at-preserved
loop-at-preserved c =
    let long = c.len-len.ensures.len in
    replaying-more c.args.readings.now c.args.transcript.now.entries c.loop-at.at c.entry-entry.result c.event.result c.loop-at.book c.make_event.new.book
    c.entry-entry.ensures (omega (arith, long)) c.event.ensures c.loop-at.invariant c.make_event.ensures

pub returns-clause-events : goal.returns-clause-events
returns-clause-events c =
    let long = c.len-len.ensures.len in
    replayed c.args.readings.now c.args.transcript.now.entries c.loop-at.at c.loop-at.book (omega (arith, long)) c.loop-at.invariant

pub returns-clause-frames : goal.returns-clause-frames
returns-clause-frames c = c.loop-at.invariant.blank.sent
