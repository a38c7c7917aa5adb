use Rattle.run_rows.proofs.GroupRuns.{tick_run_of_groups}
use Rattle.run_rows.proofs.laws.groups.Goals as goal

pub returns : goal.returns
returns c = tick_run_of_groups
