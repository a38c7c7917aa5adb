-- What the law of this crate says.
use Rattle.std.specs.Prelude.{◌≡◌, ◌≤◌, ◌++◌, ℕ, true, List, [], ◌∷◌, Some, None}
use Rattle.missing_round.specs.Masks.{Masks}
use Rattle.group_plan.specs.Plans.{PlanView}
use Rattle.round_machine.specs.declared.Verdict.TheVariants.{Fresh}
use Rattle.event_schedule.specs.Tables.{Readings, IsBounded, plain_sum}
use Rattle.event_schedule.specs.Schedule.{is_effective, verdict}
use Rattle.event_schedule.specs.Transcript.{frame, shape_of_readings, contents_of_tables}
use Rattle.event_schedule.specs.declared.Event.TheVariants.{Take}
use Rattle.meter_frames.specs.declared.Frame.{Frame}
use Rattle.head_end.specs.declared.answers.Logged.{Logged}
use Rattle.head_end.specs.Journal.{passed, survivors, lacking, total}
use Rattle.head_end.specs.Replies.{first_wrong}
use Rattle.head_end.specs.declared.answers.Logged.TheVariants.{Took, Passed}
use Rattle.meter_apart.specs.declared.answers.Noted.TheVariants.{Read, Kept}
use Rattle.apart_courses.specs.Courses.{Happening, Headed, Noticed, Said, marks, told_tag, past, head_journal}
use Rattle.apart_courses.specs.Steps.{IsInTick, IsSaidAgain}
use Rattle.apart_courses.specs.Losses.{Step, log_of, IsCourseWithLosses}

-- each reading that a meter has marked is in the table
abbrev pub HasMarks : Readings → List Happening → Type 0
HasMarks x log = (g r i v : ℕ) → marks log g r i ≡ Some v → x g r i ≡ Some v

-- what happens is an event of the schedule: a frame that is said is the one of the transcript under these tables, one that is taken
-- is fresh there, and an announcement that is heard was sent
abbrev pub IsLine : PlanView → Readings → Masks → List Happening → Happening → Type 0
IsLine plan x m log (Said f) = frame (shape_of_readings plan.groups x) (contents_of_tables plan.groups x m) f.tag (past plan log) ≡ Some f
IsLine plan x m log (Headed (Took f)) = verdict (shape_of_readings plan.groups x) f.tag.kind f.tag.group f.tag.round f.tag.meter (past plan log) ≡ Fresh
IsLine plan x m log (Headed Passed) = Unit {0}
IsLine plan x m log (Noticed g i (Read r reading)) = Unit {0}
IsLine plan x m log (Noticed g i (Kept r set)) = is_effective (shape_of_readings plan.groups x) (Take (told_tag g r i)) (past plan log) ≡ true

-- so it is with all that happened
abbrev pub AreLines : PlanView → Readings → Masks → List Happening → Type 0
AreLines plan x m [] = Unit {0}
AreLines plan x m (h ∷ before) = IsLine plan x m before h × AreLines plan x m before

-- whatever was flushed and lost
abbrev pub CoursesAreSchedules : Type 0
CoursesAreSchedules = (plan : PlanView) (x : Readings) (m : Masks) (steps : List Step) → 2 ≤ plan.w2 → IsCourseWithLosses plan m steps → HasMarks x (log_of steps) → AreLines plan x m (log_of steps)

-- and each total that the head end's report has is the plain sum of its survivors' readings
abbrev pub TotalsAreExactApart : Type 0
TotalsAreExactApart = (plan : PlanView) (x : Readings) (m : Masks) (steps : List Step) → 2 ≤ plan.w2 → IsBounded plan.groups x → IsCourseWithLosses plan m steps → HasMarks x (log_of steps) → (g r : ℕ)
    → lacking plan (head_journal (log_of steps)) g r ≡ []
    → total (head_journal (log_of steps)) g r (survivors plan (head_journal (log_of steps)) g r) ≡ plain_sum x g r (survivors plan (head_journal (log_of steps)) g r)

-- what a head end says again is in the lines of a tick by the first lines of its journal alone, where they have all its ticks
abbrev pub AgainIsOnDisk : Type 0
AgainIsOnDisk = (plan : PlanView) (journal more : List Logged) (f : Frame) → first_wrong plan journal more ≡ None → passed (journal ++ more) ≡ passed journal → IsSaidAgain plan (journal ++ more) f
    → IsInTick plan journal f
