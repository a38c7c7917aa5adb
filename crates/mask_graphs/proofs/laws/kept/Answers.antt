use Rattle.mask_graphs.proofs.KeptLemmas.{kept}
use Rattle.mask_graphs.proofs.laws.kept.Goals as goal

pub returns : goal.returns
returns c = kept
