use Rattle.apart_courses.proofs.WordLemmas.{totals_exact}
use Rattle.apart_courses.proofs.laws.totals_are_exact.Goals as goal

pub returns : goal.returns
returns c = totals_exact
