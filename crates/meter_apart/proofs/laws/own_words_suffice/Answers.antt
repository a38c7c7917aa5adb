use Rattle.meter_apart.proofs.LawLemmas.{own_words}
use Rattle.meter_apart.proofs.laws.own_words_suffice.Goals as goal

pub returns : goal.returns
returns c = own_words
