use Rattle.tick_run.proofs.GroupCalls.{sends-one}
use Rattle.tick_run.proofs.group_tick.send_one.Goals as goal

pub frame_is-requires : goal.frame_is-requires
frame_is-requires c = c.requires.can.sendable.0.fits

pub send-answer-requires-clause-can : goal.send-answer-requires-clause-can
send-answer-requires-clause-can c = record { journal = c.requires.can.journal; replays = c.requires.can.replays }

pub send-answer-requires-clause-own : goal.send-answer-requires-clause-own
send-answer-requires-clause-own c = c.requires.can.sendable.0.own

pub send-answer-requires-clause-frame : goal.send-answer-requires-clause-frame
send-answer-requires-clause-frame c = c.requires.can.sendable.0.fits

pub returns-clause-sends : goal.returns-clause-sends
returns-clause-sends c = λ j rep can. (sends-one c.args.presence.now j c.args.frame.now _ _ _ _ _ can.0 c.frame_is.ensures (c.send-answer.ensures j rep)).sends

pub returns-clause-spare : goal.returns-clause-spare
returns-clause-spare c =
    let can = c.requires.can in
    (sends-one c.args.presence.now can.journal c.args.frame.now _ _ _ _ _ can.sendable.0 c.frame_is.ensures (c.send-answer.ensures can.journal can.replays)).spare
