use Rattle.std.proofs.Common.{sym, ap, ◌∙◌, get_or, arith}
use Rattle.std.specs.Prelude.{slice_get}
use Rattle.group_plan.specs.Plans.{holds}
use Rattle.group_plan.proofs.Kept.{all_is, span_is, is_member-or}
use Rattle.group_plan.proofs.MeterNumbers.{in_place}
use Rattle.group_plan.proofs.plan.Plan.is_member.Goals as goal

pub index-requires : goal.index-requires
index-requires c = omega (arith, c.meter_at.ensures.within, all_is c.self.inside c.args.self.now c.self.invariant c.self.view_is)

pub returns : goal.returns
returns c =
    let meter = (in_place c.args.self.now c.args.group c.args.round c.args.meter c.requires).1 in
    let span = span_is c.self.inside c.args.self.now c.self.invariant c.self.view_is c.args.group c.args.meter c.index.result.now meter in
    c.holds.ensures
    ∙ ap (λ s. holds s c.args.round) (c.index.ensures ∙ ap (λ n. get_or c.self.inside.spans.items n c.index.result.now) c.meter_at.ensures.at ∙ span)
    ∙ sym (is_member-or (slice_get c.args.self.now.groups c.args.group) c.args.round c.args.meter)
