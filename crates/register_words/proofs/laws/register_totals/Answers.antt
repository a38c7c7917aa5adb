use Rattle.register_words.proofs.TotalLemmas.{side_totals_are_plain}
use Rattle.register_words.proofs.laws.register_totals.Goals as goal

pub returns : goal.returns
returns c = side_totals_are_plain
