use Rattle.role_restarts.proofs.HeadEndLemmas as head
use Rattle.role_restarts.proofs.MeterLemmas as meter
use Rattle.role_restarts.proofs.laws.starts_keep_lines.Goals as goal

pub returns-clause-head_end : goal.returns-clause-head_end
returns-clause-head_end c = head.start_crashes

pub returns-clause-meter : goal.returns-clause-meter
returns-clause-meter c = meter.start_crashes
