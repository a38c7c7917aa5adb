use Rattle.mask_graphs.proofs.KeptLemmas.{search-fits}
use Rattle.mask_graphs.proofs.FoundLemmas.{found-all}
use Rattle.mask_graphs.proofs.laws.searched.Goals as goal

pub returns-clause-fit : goal.returns-clause-fit
returns-clause-fit c = search-fits

pub returns-clause-found : goal.returns-clause-found
returns-clause-found c = found-all
