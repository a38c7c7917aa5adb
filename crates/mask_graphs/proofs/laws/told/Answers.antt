use Rattle.mask_graphs.proofs.ToldLemmas.{told, large}
use Rattle.mask_graphs.proofs.laws.told.Goals as goal

pub returns-clause-sums : goal.returns-clause-sums
returns-clause-sums c = told

pub returns-clause-large : goal.returns-clause-large
returns-clause-large c = large
