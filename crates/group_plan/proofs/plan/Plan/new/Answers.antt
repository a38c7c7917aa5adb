use Rattle.std.proofs.Common.{ap, replicate, ◌∙◌}
use Rattle.group_plan.specs.NewPlans.{whole}
use Rattle.group_plan.proofs.Kept.{IsNew, new_is, new_keeps}
use Rattle.group_plan.proofs.plan.Plan.new.Goals as goal

new : (c : goal.In_ok-whole_spans) → IsNew (record { groups = c.in_ok-copy_of_groups.field-0; starts = c.in_ok-starts_of.field-0; spans = c.in_ok-whole_spans.field-0; rounds = c.args.rounds; w1 = c.args.w1; w2 = c.args.w2 }) c.args.groups.now
new c = record {
  groups = c.in_ok-copy_of_groups.ensures;
  starts = c.in_ok-starts_of.ensures;
  spans = c.in_ok-whole_spans.ensures ∙ ap (λ n. replicate n (whole c.args.rounds)) c.meters_of-meters.ensures;
  sound = c.in_ok-check.ensures.checked;
  named = c.in_ok-check.ensures.named;
}

pub invariant_of-result : goal.invariant_of-result
invariant_of-result c = new_keeps _ c.args.groups.now (new c)

pub returns : goal.returns
returns c = (c.in_ok-check.ensures.checked, new_is _ c.args.groups.now (new c))
