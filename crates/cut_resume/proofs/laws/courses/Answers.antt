use Rattle.cut_resume.proofs.Runs.{by_one}
use Rattle.cut_resume.proofs.laws.courses.Goals as goal

pub returns : goal.returns
returns c = by_one
