use Rattle.std.proofs.Common.{sym, subst}
use Rattle.group_plan.specs.Plans.{IsWithinLimits}
use Rattle.group_plan.specs.Tables.{PresenceView, IsPresenceTable}
use Rattle.audit_check.specs.Replays.{Replays}
use Rattle.audit_check.proofs.AnswerLemmas.{none_replayed, some_replayed}
use Rattle.audit_check.proofs.replay.Replay.tell.Goals as goal

pub returns-in-Some-clause-replays : goal.returns-in-Some-clause-replays
returns-in-Some-clause-replays c =
    subst (λ x. Replays c.args.self.now.rounds c.args.line.now c.answer.result x c.answer.new.self.answered.items) (sym c.answer.ensures.rounds)
    (some_replayed c.args.self.now.rounds c.args.line.now c.in-Some.tag c.say.new.rounds c.args.self.now.answered.items c.answer.new.self.answered.items c.answer.result
    (subst IsWithinLimits c.plan.ensures c.rounds-rounds.ensures.limits)
    (subst (λ (p : PresenceView). IsPresenceTable p.plan p.table) c.presence.ensures c.plan-plan.ensures.table)
    c.requires.fits c.if-not-say.ensures c.spare-room.ensures.journal c.requires.answered c.in-Some.ensures c.answer.ensures.answered)

pub returns-in-None-clause-replays : goal.returns-in-None-clause-replays
returns-in-None-clause-replays c =
    none_replayed c.args.self.now.rounds c.args.line.now c.say.new.rounds c.args.self.now.answered.items
    (subst IsWithinLimits c.plan.ensures c.rounds-rounds.ensures.limits) c.requires.fits c.if-not-say.ensures c.spare-room.ensures.journal c.requires.answered c.in-None.ensures
