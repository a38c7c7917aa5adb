use Rattle.apart_roles.proofs.HeadEndLawLemmas.{announced_on_disk, runs_write}
use Rattle.apart_roles.proofs.laws.announced_is_backed.Goals as goal

pub returns-clause-written : goal.returns-clause-written
returns-clause-written c = runs_write

pub returns-clause-announced : goal.returns-clause-announced
returns-clause-announced c = announced_on_disk
