use Rattle.apart_runs.proofs.LawLemmas.{head_ends}
use Rattle.apart_runs.proofs.laws.head_ends_of_runs.Goals as goal

pub returns : goal.returns
returns c = head_ends
