use Rattle.head_end.proofs.StayLemmas.{lines_stay}
use Rattle.head_end.proofs.laws.lines_stay.Goals as goal

pub returns : goal.returns
returns c = lines_stay
