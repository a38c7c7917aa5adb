use Rattle.group_plan.specs.PlanParts.{plan, KeepsPlan}
use Rattle.group_plan.specs.Spans.{with_spans}
use Rattle.group_plan.specs.declared.plan.Plan.TheInside.{Inside}
use Rattle.std.proofs.Common.{◌≡◌, ◌∙◌, refl}
use Rattle.group_plan.proofs.WithSpans.{spans_are_set}
use Rattle.group_plan.proofs.plan.Plan.with_members.Goals as goal

abbrev made : goal.In_ok-spans_given → Inside
made c = record { groups = c.in_ok-copy_of_groups.field-0; starts = c.in_ok-copy_of_starts.field-0; spans = c.in_ok-spans_given.field-0; rounds = c.self.inside.rounds; w1 = c.self.inside.w1; w2 = c.self.inside.w2 }

both : (c : goal.In_ok-spans_given) → (KeepsPlan (made c)) × (plan (made c) ≡ with_spans c.args.self.now c.args.spans.now)
both c = spans_are_set c.self.inside (made c) c.args.self.now c.args.spans.now c.self.invariant c.self.view_is (c.in_ok-copy_of_groups.ensures ∙ c.deref.ensures.value) (c.in_ok-copy_of_starts.ensures ∙ c.deref-2.ensures.value) refl refl refl c.in_ok-spans_given.ensures.1

pub invariant_of-result : goal.invariant_of-result
invariant_of-result c = (both c).0

pub returns : goal.returns
returns c = (c.in_ok-spans_given.ensures.0, (both c).1)
