use Rattle.std.proofs.Common.{refl, subst, Err}
use Rattle.audit_check.specs.declared.answers.AuditError.{AuditError}
use Rattle.audit_check.specs.Audits.{AuditEnds}
use Rattle.command_texts.proofs.audit.audit_values.Goals as goal

pub returns-in-Err-Line-clause-ends : goal.returns-in-Err-Line-clause-ends
returns-in-Err-Line-clause-ends c = λ other tb rb t texts kept.
    let rows = c.args.report.now in
    (refl, (t, rows, texts, subst (λ (e : AuditError). AuditEnds t rows (Err e)) c.in-Err-Line.field-0-is (c.in-Err-Line.ensures t kept)))

pub returns-in-Err-Row-clause-ends : goal.returns-in-Err-Row-clause-ends
returns-in-Err-Row-clause-ends c = λ other tb rb t texts kept.
    let rows = c.args.report.now in
    (t, rows, texts, subst (λ (e : AuditError). AuditEnds t rows (Err e)) c.in-Err-Row.field-0-is (c.in-Err-Row.ensures t kept))
