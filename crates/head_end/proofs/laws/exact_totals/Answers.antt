use Rattle.head_end.proofs.TotalLemmas.{exact}
use Rattle.head_end.proofs.laws.exact_totals.Goals as goal

pub returns : goal.returns
returns c = exact
