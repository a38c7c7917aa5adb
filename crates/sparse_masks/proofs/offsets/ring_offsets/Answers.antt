use Rattle.std.proofs.Common.{◌∙◌, sym, subst}
use Rattle.group_plan.specs.Plans.{IsWithinLimits}
use Rattle.event_schedule.specs.Events.{events_of}
use Rattle.sparse_masks.proofs.RingEnds.{worlds-end, no_worlds-end}
use Rattle.sparse_masks.proofs.offsets.ring_offsets.Goals as goal

pub returns-clause-two_worlds : goal.returns-clause-two_worlds
returns-clause-two_worlds c =
    worlds-end c.args.width c.args.first.now c.args.second.now (events_of c.args.transcript.now.entries) c.moves_on_ring.result c.plan.ensures.table c.plan-second.ensures.table
    (c.requires.second ∙ sym c.requires.first) (subst IsWithinLimits c.plan.ensures.plan c.groups-groups.ensures.limits) c.moves_on_ring.ensures.ends

pub returns-clause-converse : goal.returns-clause-converse
returns-clause-converse c =
    no_worlds-end c.args.width c.args.first.now c.args.second.now (events_of c.args.transcript.now.entries) c.moves_on_ring.result c.plan.ensures.table c.plan-second.ensures.table
    (c.requires.second ∙ sym c.requires.first) (subst IsWithinLimits c.plan.ensures.plan c.groups-groups.ensures.limits) c.moves_on_ring.ensures.ends
