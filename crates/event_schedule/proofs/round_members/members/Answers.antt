use Rattle.std.proofs.Common.{◌∙◌, sym}
use Rattle.group_plan.specs.Plans.{is_member}
use Rattle.event_schedule.proofs.RoundMembers.{one_more, one_less}
use Rattle.event_schedule.proofs.round_members.members.Goals.{then-is_member, else-is_member}
use Rattle.event_schedule.proofs.round_members.members.Goals as goal

pub loop-meter-preserved : goal.loop-meter-preserved
loop-meter-preserved c =
    let p = is_member c.args.plan.now.groups c.args.group c.args.round in
    elim c.if-is_member.branch [
      | then-is_member w ↦ w.members-is ∙ w.with-members.ensures ∙ one_more p c.loop-meter.meter c.loop-meter.members c.loop-meter.invariant (sym c.is_member.ensures ∙ w.if-is_member.true)
      | else-is_member w ↦ w.members-is ∙ one_less p c.loop-meter.meter c.loop-meter.members c.loop-meter.invariant (sym c.is_member.ensures ∙ w.if-is_member.false)
    ]
