use Rattle.audit_check.proofs.JournalLemmas.{journals_tell}
use Rattle.audit_check.proofs.laws.journals.Goals as goal

pub returns : goal.returns
returns c = journals_tell
