use Rattle.role_restarts.proofs.HeadEndLemmas as head
use Rattle.role_restarts.proofs.MeterLemmas as meter
use Rattle.role_restarts.proofs.laws.crashes_restart.Goals as goal

pub returns-clause-head_end : goal.returns-clause-head_end
returns-clause-head_end c = head.crashes

pub returns-clause-meter : goal.returns-clause-meter
returns-clause-meter c = meter.crashes
