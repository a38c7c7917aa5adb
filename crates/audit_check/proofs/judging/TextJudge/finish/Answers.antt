use Rattle.std.proofs.Common.{subst, sym}
use Rattle.transcript_text.specs.declared.version.Version.TheVariants.{Two}
use Rattle.audit_check.specs.Passes.{IsLineOf}
use Rattle.audit_check.proofs.JudgingLemmas.{all_judged}
use Rattle.audit_check.proofs.judging.TextJudge.finish.Goals as goal

pub returns : goal.returns
returns g c = λ text taken.
    let judge = c.in-Ok.judge in
    let r = c.new.result in
    let ends = c.in-Ok.ensures in
    all_judged text judge r.impossible r.rounds (ends.ends Two text taken) (ends.law Two text taken) c.new.ensures.rounds
    (subst (IsLineOf judge.plan judge.pass.impossible) (sym c.new.ensures.impossible) c.line_of-line.ensures)
