use Rattle.std.proofs.Common.{ap, replicate, ◌∙◌}
use Rattle.std.specs.Prelude.{None}
use Rattle.group_plan.proofs.TableLemmas.{absent_is, absent_keeps}
use Rattle.group_plan.proofs.table.Readings.new.Goals as goal

pub invariant_of-result : goal.invariant_of-result
invariant_of-result c =
    absent_keeps c.args.plan.now c.in_ok-try_copy.field-0 c.in_ok-no_values.field-0.items c.in_ok-try_copy.ensures c.places.ensures.limits (c.in_ok-no_values.ensures ∙ ap (λ n. replicate n None) c.places.ensures.all)

pub returns : goal.returns
returns c =
    absent_is c.args.plan.now c.in_ok-try_copy.field-0 c.in_ok-no_values.field-0.items c.in_ok-try_copy.ensures (c.in_ok-no_values.ensures ∙ ap (λ n. replicate n None) c.places.ensures.all)
