-- What the laws of this crate say. They speak of frames: who gives a meter its reading, and hears the answer to that, knows the reading.
use Rattle.std.specs.Prelude.{◌≡◌, ◌<◌, ◌≤◌, ◌^◌, ℕ, List, is_some}
use Rattle.group_plan.specs.Plans.{PlanView}
use Rattle.event_schedule.specs.Tables.{Readings, Masks, reading_at, IsOfPlan, IsBounded}
use Rattle.ideal_masks.specs.Offsets.{Agree, offsets, shift}
use Rattle.apart_courses.specs.Courses.{Happening, marks, past}
use Rattle.apart_courses.specs.Losses.{Step, log_of, IsCourseWithLosses}
use Rattle.apart_courses.specs.Statements.{HasMarks, AreLines}

-- the tables have the same presence, and the same sum over the survivors of each round that what happened has opened
abbrev pub AgreeAfter : PlanView → Readings → Readings → List Happening → Type 0
AgreeAfter plan x y log = Agree plan.groups x y (past plan log)

-- the masks that take the second table to the frames of the first
abbrev pub shifted : PlanView → Readings → Readings → Masks → List Happening → Masks
shifted plan x y m log = shift (offsets plan.groups x y (past plan log)) m

-- whatever happens, each table that agrees with the marked readings gives all that is said and taken, under the shifted masks
abbrev pub CoursesAreIsolated : Type 0
CoursesAreIsolated = (plan : PlanView) (x y : Readings) (m : Masks) (steps : List Step) → 2 ≤ plan.w2 → IsOfPlan plan.groups x → IsCourseWithLosses plan m steps → HasMarks x (log_of steps)
    → AgreeAfter plan x y (log_of steps) → AreLines plan y (shifted plan x y m (log_of steps)) (log_of steps)

-- the readings that meters have marked are a table of the plan: members alone have one, and each is within the limit
abbrev pub MarksAreReadings : Type 0
MarksAreReadings = (plan : PlanView) (m : Masks) (steps : List Step) → IsCourseWithLosses plan m steps
    → IsOfPlan plan.groups (marks (log_of steps)) × ((g r i : ℕ) → reading_at (marks (log_of steps)) g r i < 2 ^ 40)

-- so the marked readings are isolated, whatever they are
abbrev pub MarksAreIsolated : Type 0
MarksAreIsolated = (plan : PlanView) (y : Readings) (m : Masks) (steps : List Step) → 2 ≤ plan.w2 → IsCourseWithLosses plan m steps → AgreeAfter plan (marks (log_of steps)) y (log_of steps)
    → AreLines plan y (shifted plan (marks (log_of steps)) y m (log_of steps)) (log_of steps)

-- tables of one presence that both give all that is said and taken agree, whatever the masks are
abbrev pub CoursesTellTotals : Type 0
CoursesTellTotals = (plan : PlanView) (x y : Readings) (m k : Masks) (log : List Happening) → ((g r i : ℕ) → is_some (x g r i) ≡ is_some (y g r i)) → IsBounded plan.groups x → IsBounded plan.groups y
    → AreLines plan x m log → AreLines plan y k log → AgreeAfter plan x y log
