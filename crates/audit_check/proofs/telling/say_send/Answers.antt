use Rattle.audit_check.proofs.SayLemmas.{differs_untold, sent_told}
use Rattle.audit_check.proofs.telling.say_send.Goals as goal

pub returns-in-Sent : goal.returns-in-Sent
returns-in-Sent c =
    let is = c.in-Sent.ensures in
    sent_told c.args.rounds.now c.args.frame c.send.new.self is.1 is.2 c.requires.fits is.3 is.4

pub returns-in-Differs : goal.returns-in-Differs
returns-in-Differs c =
    let is = c.in-Differs.ensures in
    differs_untold c.args.rounds.now c.args.frame c.in-Differs.posted c.spare-room.ensures.journal is.3 is.4
