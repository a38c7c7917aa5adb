use Rattle.std.proofs.Common.{take}
use Rattle.run_course.specs.Courses.{IsSound, Keeps, IsEntered, IsReached}
use Rattle.run_course.proofs.judging.in_time.Given as goal

abbrev pub invariant-loop-at : goal.invariant-loop-at
invariant-loop-at l = record {
  sound : IsSound l.course;
  keeps : Keeps l.transcript.plan (take l.at l.transcript.entries) l.course;
  entered : IsEntered (take l.at l.transcript.entries) l.course;
  reached : IsReached (take l.at l.transcript.entries) l.course;
}
