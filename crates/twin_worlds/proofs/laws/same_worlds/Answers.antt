use Rattle.twin_worlds.proofs.HonestLemmas.{honest-have-same-world}
use Rattle.twin_worlds.proofs.laws.same_worlds.Goals as goal

pub returns : goal.returns
returns c = honest-have-same-world
