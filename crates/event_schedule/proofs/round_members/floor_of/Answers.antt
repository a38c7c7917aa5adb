use Rattle.std.proofs.Common.{ap, ◌∙◌, arith}
use Rattle.std.specs.Prelude.{slice_index_or}
use Rattle.event_schedule.proofs.RoundMembers.{floor-is}
use Rattle.event_schedule.proofs.round_members.floor_of.Goals as goal

pub overflow_cast-result-2 : goal.overflow_cast-result-2
overflow_cast-result-2 c =
    let is = ap (λ gs. (slice_index_or gs c.args.group c.index-groups-group.result).floor) c.groups.ensures.groups ∙ floor-is c.args.plan.now.groups c.args.group c.index-groups-group.result c.requires in
    omega (arith, is, c.groups.ensures.limits.floor_to c.args.group, c.groups.ensures.limits.meters c.args.group)

pub returns-clause-floor : goal.returns-clause-floor
returns-clause-floor c = ap (λ gs. (slice_index_or gs c.args.group c.index-groups-group.result).floor) c.groups.ensures.groups ∙ floor-is c.args.plan.now.groups c.args.group c.index-groups-group.result c.requires

pub returns-clause-least : goal.returns-clause-least
returns-clause-least c =
    let is = ap (λ gs. (slice_index_or gs c.args.group c.index-groups-group.result).floor) c.groups.ensures.groups ∙ floor-is c.args.plan.now.groups c.args.group c.index-groups-group.result c.requires in
    omega (arith, is, c.groups.ensures.limits.floor_from c.args.group c.requires)

pub returns-clause-most : goal.returns-clause-most
returns-clause-most c =
    let is = ap (λ gs. (slice_index_or gs c.args.group c.index-groups-group.result).floor) c.groups.ensures.groups ∙ floor-is c.args.plan.now.groups c.args.group c.index-groups-group.result c.requires in
    omega (arith, is, c.groups.ensures.limits.floor_to c.args.group, c.groups.ensures.limits.meters c.args.group)
