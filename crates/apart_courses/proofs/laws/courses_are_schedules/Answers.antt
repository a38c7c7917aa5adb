use Rattle.apart_courses.specs.Losses.{log_of, disk_of}
use Rattle.apart_courses.proofs.AgreeLemmas.{lines_all}
use Rattle.apart_courses.proofs.CutLemmas.{course_of}
use Rattle.apart_courses.proofs.laws.courses_are_schedules.Goals as goal

pub returns : goal.returns
returns c = λ plan x m steps long course has. lines_all plan x m (disk_of steps) (log_of steps) long has (course_of plan m steps course)
