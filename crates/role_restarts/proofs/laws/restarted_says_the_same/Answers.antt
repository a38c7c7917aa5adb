use Rattle.role_restarts.proofs.HeadEndLemmas as head
use Rattle.role_restarts.proofs.MeterLemmas as meter
use Rattle.role_restarts.proofs.laws.restarted_says_the_same.Goals as goal

pub returns-clause-head_end : goal.returns-clause-head_end
returns-clause-head_end c = head.says_the_same

pub returns-clause-meter : goal.returns-clause-meter
returns-clause-meter c = meter.says_the_same

pub returns-clause-head_end_later : goal.returns-clause-head_end_later
returns-clause-head_end_later c = head.goes_on

pub returns-clause-meter_later : goal.returns-clause-meter_later
returns-clause-meter_later c = meter.goes_on
