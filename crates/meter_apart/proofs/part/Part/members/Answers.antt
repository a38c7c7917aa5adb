use Rattle.std.proofs.Common.{◌<◌, ◌∙◌, sym, arith}
use Rattle.group_plan.specs.Plans.{is_member, size}
use Rattle.meter_apart.proofs.PartLemmas.{none_below, one_more, one_less}
use Rattle.meter_apart.proofs.part.Part.members.Goals.{then-is_member, else-is_member}
use Rattle.meter_apart.proofs.part.Part.members.Goals as goal

pub loop-meter-init : goal.loop-meter-init
loop-meter-init c = c.empty-members.ensures ∙ none_below (is_member c.args.self.now.home.groups 0 c.args.round) (size c.args.self.now.home.groups 0)

pub loop-meter-preserved : goal.loop-meter-preserved
loop-meter-preserved c =
    let test = is_member c.args.self.now.home.groups 0 c.args.round in
    let n = size c.args.self.now.home.groups 0 in
    let lt : c.loop-meter.meter < n = omega (arith, c.loop-meter-test.true, c.loop-meter.auto.meter-end, c.meters-meter-end.ensures.meters) in
    elim c.if-is_member.branch [
      | then-is_member w ↦ w.members-is ∙ w.with-members.ensures ∙ one_more test n c.loop-meter.meter c.loop-meter.members c.loop-meter.invariant lt (sym c.is_member.ensures ∙ w.if-is_member.true)
      | else-is_member w ↦ w.members-is ∙ one_less test n c.loop-meter.meter c.loop-meter.members c.loop-meter.invariant (sym c.is_member.ensures ∙ w.if-is_member.false)
    ]
