use Rattle.ideal_masks.proofs.Isolation.{isolated}
use Rattle.ideal_masks.proofs.laws.isolated.Goals as goal

pub returns : goal.returns
returns c = isolated
