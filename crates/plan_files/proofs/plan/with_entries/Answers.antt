use Rattle.std.proofs.Common.{◌≡◌, ◌∙◌, Err, ap, rules, subst}
use Rattle.plan_files.specs.Gathering.{gathered_by, nothing, spans_of}
use Rattle.group_plan.specs.Plans.{last_tick}
use Rattle.plan_files.specs.PlanFiles.{PlanEnds, with_entries}
use Rattle.plan_files.specs.declared.fault.Failed.TheVariants.{Fault}
use Rattle.plan_files.proofs.GatherLemmas.{gather_keeps}
use Rattle.plan_files.proofs.PlanLemmas.{bad_entries, good_entries}
use Rattle.plan_files.proofs.plan.with_entries.Goals as goal

pub returns-in_err-gathering-clause-file : goal.returns-in_err-gathering-clause-file
returns-in_err-gathering-clause-file c =
    let spans : c.deref-2.result.now ≡ spans_of c.args.entries.items = c.deref-2.ensures.value ∙ c.in_ok-spans.ensures ∙ ap spans_of c.deref.ensures.value in
    let error = c.in_err-gathering.field-0.0 in
    let ends = bad_entries c.args.plan c.in_ok-plan.plan c.in_ok-plan.fault c.args.first c.args.entries.items c.deref-2.result.now error spans c.in_ok-plan.ensures c.in_err-gathering.ensures.refused in
    let answered : Err error ≡ c.from_residual-in_err-gathering.result = search rules in
    subst (λ r. PlanEnds (with_entries c.args.plan c.args.first c.args.entries.items) r) answered ends

pub complete-requires : goal.complete-requires
complete-requires c =
    gather_keeps (last_tick c.in_ok-plan.plan) c.in_ok-plan.fault c.args.first (nothing c.in_ok-plan.plan) (gathered_by c.in_ok-gathering.gathering) c.args.entries.items c.in_ok-gathering.ensures.whole

pub returns-in_err-complete-clause-file : goal.returns-in_err-complete-clause-file
returns-in_err-complete-clause-file c =
    let spans : c.deref-2.result.now ≡ spans_of c.args.entries.items = c.deref-2.ensures.value ∙ c.in_ok-spans.ensures ∙ ap spans_of c.deref.ensures.value in
    let same = good_entries c.args.plan c.in_ok-plan.plan c.in_ok-plan.fault c.args.first c.args.entries.items c.deref-2.result.now (gathered_by c.in_ok-gathering.gathering) spans c.in_ok-plan.ensures c.in_ok-gathering.ensures.whole in
    let fault = c.in_err-complete.field-0.0 in
    let answered : Err (Fault fault) ≡ c.from_residual-in_err-complete.result = search rules in
    subst (λ r. PlanEnds (with_entries c.args.plan c.args.first c.args.entries.items) r) answered (same ∙ c.in_err-complete.ensures.missing)

pub returns-clause-file : goal.returns-clause-file
returns-clause-file c =
    let spans : c.deref-2.result.now ≡ spans_of c.args.entries.items = c.deref-2.ensures.value ∙ c.in_ok-spans.ensures ∙ ap spans_of c.deref.ensures.value in
    let same = good_entries c.args.plan c.in_ok-plan.plan c.in_ok-plan.fault c.args.first c.args.entries.items c.deref-2.result.now (gathered_by c.in_ok-gathering.gathering) spans c.in_ok-plan.ensures c.in_ok-gathering.ensures.whole in
    same ∙ c.in_ok-complete.ensures.file
