use Rattle.cut_resume.proofs.Runs.{runs}
use Rattle.cut_resume.proofs.laws.whole_ticks.Goals as goal

pub returns : goal.returns
returns c = runs
