use Rattle.missing_round.proofs.WordLemmas.{cancels, cancels_exactly}
use Rattle.missing_round.proofs.laws.cancellation.Goals as goal

pub returns-clause-modulo : goal.returns-clause-modulo
returns-clause-modulo c = cancels

pub returns-clause-exactly : goal.returns-clause-exactly
returns-clause-exactly c = cancels_exactly
