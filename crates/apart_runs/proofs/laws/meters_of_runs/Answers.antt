use Rattle.apart_runs.proofs.LawLemmas.{meters}
use Rattle.apart_runs.proofs.laws.meters_of_runs.Goals as goal

pub returns : goal.returns
returns c = meters
