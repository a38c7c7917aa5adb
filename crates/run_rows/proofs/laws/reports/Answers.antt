use Rattle.run_rows.proofs.RunLemmas.{reported}
use Rattle.run_rows.proofs.laws.reports.Goals as goal

pub returns : goal.returns
returns c = reported
