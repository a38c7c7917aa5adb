use Rattle.audit_check.proofs.HonestLemmas.{honest_are_accepted}
use Rattle.audit_check.proofs.laws.honest_runs.Goals as goal

pub returns : goal.returns
returns c = honest_are_accepted
