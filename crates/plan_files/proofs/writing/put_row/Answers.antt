use Rattle.std.proofs.Common.{◌++◌, ◌∙◌, ap}
use Rattle.std.specs.Prelude.{codes, decimal}
use Rattle.group_plan.specs.Plans.{PlanView, name_of}
use Rattle.plan_files.proofs.WrittenRows.{row_written}
use Rattle.plan_files.proofs.writing.put_row.Goals as goal

pub returns : goal.returns
returns c =
    let x = c.args.readings.now in
    c.in_ok-push.ensures.items
    ∙ row_written x.plan x.table c.args.group c.args.round c.args.out.now.items c.put_place.new.out.items c.put_meters.new.out.items
    (c.in_ok-put_place.ensures ∙ ap (λ (p : PlanView). c.args.out.now.items ++ name_of p.groups c.args.group ++ codes "," ++ decimal c.args.round) c.plan.ensures.plan)
    c.in_ok-put_meters.ensures
