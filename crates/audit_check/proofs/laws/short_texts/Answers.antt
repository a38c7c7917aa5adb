use Rattle.audit_check.proofs.RunLengths.{transcripts_short, reports_short}
use Rattle.audit_check.proofs.laws.short_texts.Goals as goal

pub returns-clause-transcript : goal.returns-clause-transcript
returns-clause-transcript c = transcripts_short

pub returns-clause-report : goal.returns-clause-report
returns-clause-report c = reports_short
