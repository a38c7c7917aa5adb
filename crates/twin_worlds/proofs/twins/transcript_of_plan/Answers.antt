use Rattle.std.proofs.Common.{rules, ◌≡◌, ◌∙◌, subst, sym}
use Rattle.std.specs.Prelude.{Err}
use Rattle.twin_worlds.specs.declared.answers.TwinError.{TwinError}
use Rattle.twin_worlds.specs.Ends.{HeadEnds}
use Rattle.twin_worlds.specs.Comparing.{Decides}
use Rattle.twin_worlds.proofs.TwinLemmas.{head-refused}
use Rattle.twin_worlds.proofs.twins.transcript_of_plan.Goals as goal

pub returns-in_err-transcript-clause-ends : goal.returns-in_err-transcript-clause-ends
returns-in_err-transcript-clause-ends c = λ text read.
    let e : TwinError = c.in_err-transcript.field-0.0 in
    let answered : Err e ≡ c.from_residual.result = search (rules, c.from_residual.ensures) in
    subst (HeadEnds c.args.plan.now text) answered (head-refused c.args.plan.now text e (c.in_err-transcript.ensures.ends text read))

pub returns-then-branch-clause-ends : goal.returns-then-branch-clause-ends
returns-then-branch-clause-ends c = λ text read.
    let same = subst (Decides (c.plan.result.now ≡ c.args.plan.now)) c.if-branch.true c.in_ok-is_same_plan.ensures in
    (c.in_ok-transcript.ensures.ends text read, sym c.plan.ensures ∙ same)

pub returns-else-branch-clause-ends : goal.returns-else-branch-clause-ends
returns-else-branch-clause-ends c = λ text read.
    let other = subst (Decides (c.plan.result.now ≡ c.args.plan.now)) c.if-branch.false c.in_ok-is_same_plan.ensures in
    (c.in_ok-transcript.transcript, c.in_ok-transcript.ensures.ends text read, λ same. other (c.plan.ensures ∙ same))
