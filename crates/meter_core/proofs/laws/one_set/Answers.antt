use Rattle.meter_core.proofs.CallLemmas as lemmas
use Rattle.meter_core.proofs.laws.one_set.Goals as goal

pub returns : goal.returns
returns c = lemmas.one_set
