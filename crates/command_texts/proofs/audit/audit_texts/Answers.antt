use Rattle.command_texts.proofs.AuditLemmas.{report_refused}
use Rattle.command_texts.proofs.audit.audit_texts.Goals as goal

pub returns-in-Err-clause-ends : goal.returns-in-Err-clause-ends
returns-in-Err-clause-ends c = λ tb is. c.in-Err.ensures.refused tb _ _ is

pub returns-in-Err-report_of-clause-ends : goal.returns-in-Err-report_of-clause-ends
returns-in-Err-report_of-clause-ends c = λ tb is.
    let reads = c.in-Ok.ensures.reads tb is in
    report_refused _ _ tb _ _ _ reads.read c.in-Err-report_of.ensures.refused

pub returns-clause-ends : goal.returns-clause-ends
returns-clause-ends c = λ tb is.
    let reads = c.in-Ok.ensures.reads tb is in
    c.audit_values.ensures.ends _ tb _ reads.transcript (record {
      sound = reads.sound;
      transcript_is = reads.is;
      transcript = reads.read;
      report_is = c.in-Ok-report_of.ensures.text;
      report = c.in-Ok-report_of.ensures.value;
    }) reads.kept
