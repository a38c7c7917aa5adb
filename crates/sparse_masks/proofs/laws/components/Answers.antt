use Rattle.sparse_masks.proofs.NeighbourLemmas.{near}
use Rattle.sparse_masks.proofs.ReachLemmas.{is_component}
use Rattle.sparse_masks.proofs.laws.components.Goals as goal

pub returns-clause-neighbours : goal.returns-clause-neighbours
returns-clause-neighbours c = near

pub returns-clause-smallest : goal.returns-clause-smallest
returns-clause-smallest c = is_component
