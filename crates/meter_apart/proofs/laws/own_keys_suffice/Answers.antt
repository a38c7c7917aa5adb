use Rattle.meter_apart.proofs.LawLemmas.{own_keys}
use Rattle.meter_apart.proofs.laws.own_keys_suffice.Goals as goal

pub returns : goal.returns
returns c = own_keys
