use Rattle.cut_resume.proofs.InTime.{resumed_runs_are_in_time}
use Rattle.cut_resume.proofs.laws.times.Goals as goal

pub returns : goal.returns
returns c = resumed_runs_are_in_time
