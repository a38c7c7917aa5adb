use Rattle.audit_check.proofs.AnswerLemmas.{none_answered}
use Rattle.audit_check.proofs.FollowLemmas.{begun}
use Rattle.audit_check.proofs.replay.Replay.new.Goals as goal

pub returns-clause-replay : goal.returns-clause-replay
returns-clause-replay c =
    begun c.args.plan.now c.in_ok-seen.seen c.in_ok-rounds.rounds c.in_ok-answered.answered.items c.in_ok-seen.ensures c.in_ok-rounds.ensures.presence c.in_ok-rounds.ensures.journal
    (none_answered c.args.plan.now c.in_ok-answered.answered.items c.in_ok-answered.ensures)
