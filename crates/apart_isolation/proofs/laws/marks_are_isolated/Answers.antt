use Rattle.apart_courses.specs.Courses.{marks}
use Rattle.apart_courses.specs.Losses.{log_of}
use Rattle.apart_isolation.proofs.LineLemmas.{isolated}
use Rattle.apart_isolation.proofs.MarkLemmas.{marks_are}
use Rattle.apart_isolation.proofs.laws.marks_are_isolated.Goals as goal

pub returns-clause-readings : goal.returns-clause-readings
returns-clause-readings c = marks_are

pub returns-clause-isolated : goal.returns-clause-isolated
returns-clause-isolated c = λ plan y m steps long course.
    isolated plan (marks (log_of steps)) y m steps long (marks_are plan m steps course).0 course (λ g r i v is. is)
