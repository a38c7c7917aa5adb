use Rattle.apart_roles.proofs.LawLemmas.{readings_marked, runs_flushed, sets_kept}
use Rattle.apart_roles.proofs.laws.said_is_backed.Goals as goal

pub returns-clause-flushed : goal.returns-clause-flushed
returns-clause-flushed c = runs_flushed

pub returns-clause-readings : goal.returns-clause-readings
returns-clause-readings c = readings_marked

pub returns-clause-sets : goal.returns-clause-sets
returns-clause-sets c = sets_kept
