use Rattle.apart_isolation.proofs.ToldLemmas.{tell_totals}
use Rattle.apart_isolation.proofs.laws.courses_tell_totals.Goals as goal

pub returns : goal.returns
returns c = tell_totals
