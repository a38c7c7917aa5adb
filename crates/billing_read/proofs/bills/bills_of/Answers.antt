use Rattle.std.proofs.Common.{ap, map, ◌∙◌, arith}
use Rattle.std.specs.Prelude.{length}
use Rattle.std.proofs.lemmas.List.{length-map}
use Rattle.group_plan.specs.NewPlans.{stated}
use Rattle.std.specs.List.{range_with_len}
use Rattle.group_plan.specs.Plans.{size}
use Rattle.group_plan.specs.Tables.{reading}
use Rattle.billing_read.specs.Bills.{bill}
use Rattle.billing_read.proofs.BillLemmas.{groups_more, bills_within}
use Rattle.billing_read.proofs.bills.bills_of.Goals as goal

pub loop-group-preserved : goal.loop-group-preserved
loop-group-preserved c =
    let p = c.args.plan.now in
    let x = reading c.args.readings.now.table in
    let q = c.args.readings.now.plan in
    groups_more (λ g. map (bill p c.args.from c.args.until x g) (range_with_len 0 (size p.groups g))) c.loop-group.group c.loop-group.bills.items c.add_group.new.bills.items
    (map (bill q c.args.from c.args.until x c.loop-group.group) (range_with_len 0 (size q.groups c.loop-group.group))) c.loop-group.invariant c.in_ok-add_group.ensures
    (ap (λ z. map (bill z c.args.from c.args.until x c.loop-group.group) (range_with_len 0 (size z.groups c.loop-group.group))) c.requires)

pub returns-clause-groups : goal.returns-clause-groups
returns-clause-groups c =
    let long = ap length c.groups-group-end.ensures.groups ∙ length-map c.args.plan.now.groups stated in
    bills_within c.args.plan.now c.args.from c.args.until (reading c.args.readings.now.table) c.loop-group.group c.loop-group.bills.items (omega (arith, long, c.loop-group.auto.group-end)) c.loop-group.invariant
