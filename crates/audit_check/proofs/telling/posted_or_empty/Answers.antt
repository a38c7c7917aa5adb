use Rattle.audit_check.proofs.SayLemmas.{posted_is_own}
use Rattle.audit_check.proofs.telling.posted_or_empty.Goals as goal

pub returns-in-Some : goal.returns-in-Some
returns-in-Some c =
    posted_is_own c.args.rounds.now c.args.tag c.in-Some.frame
    c.spare-room.ensures.journal c.in-Some.ensures
