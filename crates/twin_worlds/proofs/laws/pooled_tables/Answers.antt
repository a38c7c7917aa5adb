use Rattle.twin_worlds.proofs.HonestLemmas.{honest-have-pooled}
use Rattle.twin_worlds.proofs.laws.pooled_tables.Goals as goal

pub returns : goal.returns
returns c = honest-have-pooled
