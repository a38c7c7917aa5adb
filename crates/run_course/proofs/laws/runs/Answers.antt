use Rattle.run_course.proofs.SomeRuns.{runs_are_in_time}
use Rattle.run_course.proofs.laws.runs.Goals as goal

pub returns : goal.returns
returns c = runs_are_in_time
