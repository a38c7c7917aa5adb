use Rattle.std.proofs.Common.{map, refl, ap, ◌∙◌, arith}
use Rattle.std.specs.Prelude.{length}
use Rattle.std.specs.List.{flat_map, range_with_len}
use Rattle.std.proofs.lemmas.List.{length-map}
use Rattle.group_plan.specs.NewPlans.{stated}
use Rattle.group_plan.specs.Plans.{PlanView}
use Rattle.plan_files.specs.PlainRows.{row_text}
use Rattle.plan_files.specs.Spelling.{readings_row}
use Rattle.plan_files.proofs.WrittenRows.{groups_written, all_written, read_again}
use Rattle.plan_files.proofs.writing.write_readings.Goals as goal

pub put_group-requires : goal.put_group-requires
put_group-requires c =
    let long = ap length c.groups-group-end.ensures.groups ∙ length-map c.args.plan.now.groups stated in
    let given = ap (λ (p : PlanView). length p.groups) c.requires in
    omega (arith, long, given, c.loop-group-test.true)

pub loop-group-preserved : goal.loop-group-preserved
loop-group-preserved c =
    let x = c.args.readings.now in
    groups_written (λ g. flat_map row_text (map (readings_row x.plan x.table g) (range_with_len 0 x.plan.rounds))) c.loop-group.group c.loop-group.out.items c.put_group.new.out.items
    (flat_map row_text (map (readings_row x.plan x.table c.loop-group.group) (range_with_len 0 x.plan.rounds))) c.loop-group.invariant c.in_ok-put_group.ensures refl

pub returns-clause-text : goal.returns-clause-text
returns-clause-text c = all_written c.args.plan.now c.args.readings.now c.loop-group.group (length c.groups-group-end.result.now) c.loop-group.out.items c.requires
    (ap length c.groups-group-end.ensures.groups ∙ length-map c.args.plan.now.groups stated) (omega (arith, c.loop-group-test.false, c.loop-group.auto.group-end)) c.loop-group.invariant

pub returns-clause-read : goal.returns-clause-read
returns-clause-read c =
    read_again c.args.plan.now c.args.readings.now c.loop-group.out.items c.requires c.groups-group-end.ensures.limits c.plan-readings.ensures.table
    (all_written c.args.plan.now c.args.readings.now c.loop-group.group (length c.groups-group-end.result.now) c.loop-group.out.items c.requires
    (ap length c.groups-group-end.ensures.groups ∙ length-map c.args.plan.now.groups stated) (omega (arith, c.loop-group-test.false, c.loop-group.auto.group-end)) c.loop-group.invariant)
