use Rattle.std.proofs.Common.{◌≡◌, ap, sym, ◌∙◌, arith}
use Rattle.std.specs.Prelude.{length}
use Rattle.std.proofs.lemmas.List.{length-map}
use Rattle.group_plan.specs.NewPlans.{stated}
use Rattle.group_plan.specs.Plans.{PlanView}
use Rattle.group_plan.proofs.Limits.{past}
use Rattle.group_plan.specs.Tables.{reading}
use Rattle.billing_read.specs.Partners.{changed}
use Rattle.billing_read.proofs.CopyLemmas.{all_groups, none_outside, out_meter}
use Rattle.billing_read.proofs.changes.other_world.Goals as goal

pub returns : goal.returns
returns c =
    let x = c.args.readings.now in
    let y = c.loop-group.other in
    let p = c.args.partner.now in
    let same : y.plan ≡ x.plan = c.loop-group.invariant.plan ∙ sym c.requires.plan in
    let long = ap length c.groups-group-end.ensures.groups ∙ length-map c.args.plan.now.groups stated in
    let given = ap (λ (q : PlanView). length q.groups) c.requires.plan in
    record {
      plan = same;
      readings = all_groups (changed (reading x.table) c.args.place.group c.args.place.round c.args.place.meter p) y c.loop-group.group c.loop-group.invariant.before
          (λ g r i le. none_outside x y c.args.place.group c.args.place.round c.args.place.meter p c.plan-readings.ensures.table c.plan-whole.ensures.table same g r i
          (out_meter x.plan g r i (let none = (past x.plan.groups g (omega (arith, long, given, le, c.loop-group-test.false))).0 in omega (arith, none))));
    }
