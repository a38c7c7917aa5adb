use Rattle.cut_resume.proofs.OnCourse.{beginnings_are_on_course}
use Rattle.cut_resume.proofs.laws.beginnings.Goals as goal

pub returns : goal.returns
returns c = beginnings_are_on_course
