use Rattle.apart_roles.proofs.WrittenLemmas.{head_end_runs_written, head_end_starts_written, meter_runs_written, meter_starts_written}
use Rattle.apart_roles.proofs.laws.journals_are_whole.Goals as goal

pub returns-clause-head_end_starts : goal.returns-clause-head_end_starts
returns-clause-head_end_starts c = head_end_starts_written

pub returns-clause-meter_starts : goal.returns-clause-meter_starts
returns-clause-meter_starts c = meter_starts_written

pub returns-clause-head_end_runs : goal.returns-clause-head_end_runs
returns-clause-head_end_runs c = head_end_runs_written

pub returns-clause-meter_runs : goal.returns-clause-meter_runs
returns-clause-meter_runs c = meter_runs_written
