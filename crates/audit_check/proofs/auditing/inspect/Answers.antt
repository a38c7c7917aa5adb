use Rattle.audit_check.proofs.OpenedLemmas.{transcript_counted}
use Rattle.audit_check.proofs.auditing.inspect.Goals as goal

pub returns : goal.returns
returns c = (
  c.in_ok-counts.ensures c.args.transcript.now c.in_ok-rounds.ensures,
  transcript_counted c.args.transcript.now c.in_ok-rounds.rounds c.opened_rounds-opened.result c.in_ok-rounds.ensures.holds c.opened_rounds-opened.ensures,
)
