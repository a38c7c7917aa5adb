use Rattle.std.proofs.Common.{ap, map, ◌∙◌}
use Rattle.std.specs.Prelude.{is_some}
use Rattle.group_plan.proofs.TableLemmas.{present_is, present_keeps}
use Rattle.group_plan.proofs.table.Presence.of.Goals as goal

pub invariant_of-result : goal.invariant_of-result
invariant_of-result c =
    present_keeps c.readings.inside.plan c.in_ok-try_copy.field-0 c.readings.inside.values.items c.in_ok-presence_of.field-0.items c.readings.invariant c.in_ok-try_copy.ensures (c.in_ok-presence_of.ensures ∙ ap (map is_some) c.deref.ensures.value)

pub returns : goal.returns
returns c =
    present_is c.args.readings.now c.readings.inside.plan c.in_ok-try_copy.field-0 c.readings.inside.values.items c.in_ok-presence_of.field-0.items c.readings.view_is c.in_ok-try_copy.ensures (c.in_ok-presence_of.ensures ∙ ap (map is_some) c.deref.ensures.value)
