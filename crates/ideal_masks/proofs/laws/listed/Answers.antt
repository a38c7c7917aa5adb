use Rattle.ideal_masks.proofs.MoveLemmas.{list_is}
use Rattle.ideal_masks.proofs.laws.listed.Goals as goal

pub returns : goal.returns
returns c = list_is
