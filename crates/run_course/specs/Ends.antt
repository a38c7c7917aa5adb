-- How the judgement of a transcript's plan and times ends.
use Rattle.std.specs.Prelude.{ℕ, ◌+◌, ◌<◌, length, take, Result, Ok, Err, ⊤}
use Rattle.event_schedule.specs.Transcripts.{TranscriptView}
use Rattle.run_course.specs.declared.errors.CourseError.{CourseError}
use Rattle.run_course.specs.declared.errors.CourseError.TheVariants as course
use Rattle.run_course.specs.Beginnings.{IsSomeRun, BeginsRun}

-- a run begins with the entries before entry k, and none begins with those up to and with it
pub record IsFirstOffCourse (t : TranscriptView) (k : ℕ) : Type 0 where
  pub there : k < length t.entries
  pub before : BeginsRun t.plan (take k t.entries)
  pub here : ¬ BeginsRun t.plan (take (k + 1) t.entries)

-- a run begins with all entries, and they are none
pub record IsUnfinished (t : TranscriptView) : Type 0 where
  pub begins : BeginsRun t.plan t.entries
  pub unfinished : ¬ IsSomeRun t.plan t.entries

-- all entries are a run; or the first with which none begins; or they are the beginning of one; want of memory is free
abbrev pub CourseEnds : TranscriptView → Result (Unit {0}) CourseError → Type 0
CourseEnds t (Ok _) = IsSomeRun t.plan t.entries
CourseEnds t (Err (course.Entry k)) = IsFirstOffCourse t k
CourseEnds t (Err course.Unfinished) = IsUnfinished t
CourseEnds t (Err course.Memory) = ⊤
