use Rattle.meter_apart.proofs.LawLemmas.{one_set, one_reading}
use Rattle.meter_apart.proofs.laws.one_of_each.Goals as goal

pub returns-clause-set : goal.returns-clause-set
returns-clause-set c = one_set

pub returns-clause-reading : goal.returns-clause-reading
returns-clause-reading c = one_reading
