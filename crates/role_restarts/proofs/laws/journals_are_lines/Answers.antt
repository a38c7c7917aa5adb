use Rattle.role_restarts.proofs.HeadEndLemmas as head
use Rattle.role_restarts.proofs.MeterLemmas as meter
use Rattle.role_restarts.proofs.laws.journals_are_lines.Goals as goal

pub returns-clause-head_end_starts : goal.returns-clause-head_end_starts
returns-clause-head_end_starts c = head.starts_have

pub returns-clause-meter_starts : goal.returns-clause-meter_starts
returns-clause-meter_starts c = meter.starts_have

pub returns-clause-head_end_runs : goal.returns-clause-head_end_runs
returns-clause-head_end_runs c = head.runs_have

pub returns-clause-meter_runs : goal.returns-clause-meter_runs
returns-clause-meter_runs c = meter.runs_have

pub returns-clause-head_end_killed : goal.returns-clause-head_end_killed
returns-clause-head_end_killed c = head.killed

pub returns-clause-meter_killed : goal.returns-clause-meter_killed
returns-clause-meter_killed c = meter.killed
