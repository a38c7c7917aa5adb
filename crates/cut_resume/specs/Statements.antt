-- What the laws of this crate say. Each is proved for every plan, presence, list of lanes, words and lists of entries.
use Rattle.std.specs.Prelude.{◌≡◌, ℕ, true, List, [], ◌∷◌, ◌++◌, Result, Ok, Err, ⊤}
use Rattle.group_plan.specs.Tables.{PresenceView, ReadingsView}
use Rattle.group_book.specs.Groups.{GroupView}
use Rattle.group_book.specs.Replay.{AreReplayed}
use Rattle.link_lanes.specs.Lanes.{Slot}
use Rattle.pair_keys.specs.Keys.{Keys}
use Rattle.event_schedule.specs.declared.Entry.{Entry}
use Rattle.event_schedule.specs.Events.{lines_of}
use Rattle.event_schedule.specs.Schedule.{Shape}
use Rattle.event_schedule.specs.Transcript.{Contents}
use Rattle.event_schedule.specs.Transcripts.{IsTranscript, TranscriptView}
use Rattle.run_rows.specs.Ticks.{Clock, HaveDelays}
use Rattle.run_rows.specs.Runs.{IsRun}
use Rattle.run_course.specs.declared.errors.CourseError.{CourseError}
use Rattle.run_course.specs.declared.errors.CourseError.TheVariants as course
use Rattle.run_course.specs.Ends.{CourseEnds}
use Rattle.tick_run.specs.declared.finished.Finished.{Finished}
use Rattle.cut_resume.specs.Order.{may_pass}
use Rattle.cut_resume.specs.OnCourse.{AreOnCourse, IsNext, IsWholeTick}
use Rattle.cut_resume.specs.Resumed.{ResumeEnds}

-- a run of these lanes and words begins with these entries
abbrev pub BeginsRun : Shape → Clock → List Slot → Contents → List Entry → Type 0
BeginsRun s c slots words entries = (more : List Entry) × IsRun s c slots words (entries ++ more)

-- the entries with which a tick run begins whose lines are those of its events are on course
abbrev pub BeginningsAreOnCourse : Type 0
BeginningsAreOnCourse = (s : Shape) (c : Clock) (slots : List Slot) (words : Contents) (entries : List Entry) →
    BeginsRun s c slots words entries → AreOnCourse s c slots words entries

-- entries and one more are on course where the entries are, and it can come next
pub record IsByOne (s : Shape) (c : Clock) (slots : List Slot) (words : Contents) (entries : List Entry) (e : Entry) : Type 0 where
  pub nothing : AreOnCourse s c slots words []
  pub more : AreOnCourse s c slots words entries → IsNext s c slots words entries e → AreOnCourse s c slots words (entries ++ e ∷ [])
  pub back : AreOnCourse s c slots words (entries ++ e ∷ []) → AreOnCourse s c slots words entries × IsNext s c slots words entries e

abbrev pub CoursesGoOnByOne : Type 0
CoursesGoOnByOne = (s : Shape) (c : Clock) (slots : List Slot) (words : Contents) (entries : List Entry) (e : Entry) → IsByOne s c slots words entries e

-- entries on course of which each tick is whole are a run
abbrev pub WholeTicksAreRuns : Type 0
WholeTicksAreRuns = (s : Shape) (c : Clock) (slots : List Slot) (words : Contents) (entries : List Entry) →
    AreOnCourse s c slots words entries → ((t : ℕ) → IsWholeTick s c entries t) → HaveDelays entries → IsRun s c slots words entries

-- where two neighbours of a run may change places, it stays a run, and each line stays what it is
abbrev pub OrdersSayNothing : Type 0
OrdersSayNothing = (s : Shape) (c : Clock) (slots : List Slot) (words : Contents) (before after : List Entry) (x e : Entry) → may_pass e x ≡ true →
    IsRun s c slots words (before ++ x ∷ e ∷ after) → IsRun s c slots words (before ++ e ∷ x ∷ after)

-- and what a book keeps of their lines stays what they say
abbrev pub BooksKeepAsMuch : Type 0
BooksKeepAsMuch = (p : PresenceView) (groups : List GroupView) (before after : List Entry) (x e : Entry) → may_pass e x ≡ true →
    AreReplayed p (lines_of (before ++ x ∷ e ∷ after)) groups → AreReplayed p (lines_of (before ++ e ∷ x ∷ after)) groups

-- ---- times

-- no entry is refused
abbrev pub RefusesNone : Result (Unit {0}) CourseError → Type 0
RefusesNone (Err (course.Entry k)) = ⊥
RefusesNone _ = ⊤

-- no entry is refused, nor that there are no more
abbrev pub LetsPass : Result (Unit {0}) CourseError → Type 0
LetsPass (Ok _) = ⊤
LetsPass (Err course.Memory) = ⊤
LetsPass (Err _) = ⊥

-- what the judge of times answers: of the cut that it refuses no entry, and of the run that it passes
pub record AreInTime (cut run : TranscriptView) : Type 0 where
  pub of_cut : (answer : Result (Unit {0}) CourseError) → CourseEnds cut answer → RefusesNone answer
  pub of_run : (answer : Result (Unit {0}) CourseError) → CourseEnds run answer → LetsPass answer

-- a cut from which a run goes on is in time, and so is the run
abbrev pub ResumedRunsAreInTime : Type 0
ResumedRunsAreInTime =
    (readings : ReadingsView) (keys : Keys) (slots : List Slot) (cut : TranscriptView) (f : Finished) → cut.plan ≡ readings.plan → IsTranscript f.transcript
    → ResumeEnds readings keys slots cut (Ok f) → AreInTime cut f.transcript
