use Rattle.std.proofs.Common.{IsTrue, get_or, below_more, sym, ap, ◌∙◌, arith}
use Rattle.std.proofs.lemmas.List.{get_or_default}
use Rattle.group_plan.specs.Names.{is_name}
use Rattle.group_plan.specs.declared.plan.GroupPlan.{GroupPlan}
use Rattle.group_plan.proofs.Faults.{same_name_found, same_name_more}
use Rattle.group_plan.proofs.plan.check_names.Goals as goal

pub returns-in-Some-clause-checked : goal.returns-in-Some-clause-checked
returns-in-Some-clause-checked c =
    sym c.loop-h.invariant.unlike ∙ same_name_found c.args.groups.now c.loop-h.h c.in-Some.g c.index-groups-h.result c.bytes.result.now (omega arith) c.bytes.ensures.bytes (sym c.in-Some.ensures.found)

pub loop-h-preserved : goal.loop-h-preserved
loop-h-preserved c = record {
  unlike = sym (same_name_more c.args.groups.now c.loop-h.h c.index-groups-h.result c.bytes.result.now (omega arith) c.bytes.ensures.bytes (sym c.in_default.ensures.found)) ∙ c.loop-h.invariant.unlike;
  named =
      below_more (λ k. (d : GroupPlan) → IsTrue (is_name (get_or c.args.groups.now k d).name)) c.loop-h.h c.loop-h.invariant.named
      (λ d. ap (λ g. is_name g.name) (get_or_default c.args.groups.now c.loop-h.h d c.index-groups-h.result (omega arith)) ∙ c.bytes.ensures.named);
}
