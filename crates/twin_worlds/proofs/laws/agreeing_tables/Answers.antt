use Rattle.twin_worlds.proofs.HonestLemmas.{honest-have-twins}
use Rattle.twin_worlds.proofs.laws.agreeing_tables.Goals as goal

pub returns : goal.returns
returns c = honest-have-twins
