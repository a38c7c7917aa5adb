use Rattle.std.proofs.Common.{◌∙◌, [], length, Err, ap, sym, subst, arith}
use Rattle.plan_files.specs.Faults.{Ends}
use Rattle.plan_files.specs.declared.fault.Failed.TheVariants.{Fault}
use Rattle.plan_files.specs.Gathering.{Settles, spans_of}
use Rattle.plan_files.specs.PlanFiles.{with_members}
use Rattle.plan_files.proofs.PlanLemmas.{fault_within, few_spans, members_refused, members_settled}
use Rattle.plan_files.proofs.plan.with_members.Goals as goal

pub returns-in-None : goal.returns-in-None
returns-in-None c =
    let spans = sym c.in_ok-spans.ensures ∙ sym c.deref.ensures.value in
    ap (with_members c.args.plan c.args.first) spans
    ∙ members_settled c.args.plan c.in_ok-plan.plan c.args.first c.deref.result.now (subst (Settles c.args.plan c.deref.result.now c.in_ok-plan.plan) c.in-None.is c.in_ok-plan.ensures)

pub member_fault-requires : goal.member_fault-requires
member_fault-requires c =
    let settled = subst (Settles c.args.plan c.deref.result.now c.in_ok-plan.plan) c.in-Some.is c.in_ok-plan.ensures in
    let within = fault_within c.args.plan [] c.deref.result.now c.in-Some.error (sym settled.faulty) in
    let spans = ap length (c.deref.ensures.value ∙ c.in_ok-spans.ensures) in
    let room = c.requires in
    omega (arith, within, spans, few_spans c.args.entries.now, room)

pub returns : goal.returns
returns c =
    let spans = sym c.in_ok-spans.ensures ∙ sym c.deref.ensures.value in
    let settled = subst (Settles c.args.plan c.deref.result.now c.in_ok-plan.plan) c.in-Some.is c.in_ok-plan.ensures in
    let refused = ap (with_members c.args.plan c.args.first) spans ∙ members_refused c.args.plan c.in_ok-plan.plan c.args.first c.deref.result.now c.in-Some.error settled in
    subst (λ fault. Ends (with_members c.args.plan c.args.first (spans_of c.args.entries.now)) (Err (Fault fault))) (sym c.member_fault.ensures) refused
