-- One transcript has one line at each event, and so all that happens is that of both tables.
use Rattle.std.proofs.Common.{◌≡◌, ◌≤◌, List, [], ◌∷◌, reverse, sym, ap, ◌∙◌}
use Rattle.std.proofs.lemmas.List.{reverse-reverse}
use Rattle.group_plan.specs.Plans.{PlanView, Group}
use Rattle.event_schedule.specs.declared.Event.{Event}
use Rattle.event_schedule.specs.declared.Event.TheVariants.{Take}
use Rattle.event_schedule.specs.Events.{frame_of}
use Rattle.event_schedule.specs.Tables.{Readings, Masks, IsOfPlan}
use Rattle.event_schedule.specs.Schedule.{Shape, verdict, is_effective}
use Rattle.event_schedule.specs.Transcript.{Contents, frame, line, lines_after, transcript, shape_of_readings, contents_of_tables}
use Rattle.head_end.specs.declared.answers.Logged.TheVariants.{Took, Passed}
use Rattle.meter_apart.specs.declared.answers.Noted.TheVariants.{Read, Kept}
use Rattle.ideal_masks.specs.Offsets.{Agree, offsets, shift}
use Rattle.apart_courses.specs.Courses.{Happening, Headed, Noticed, Said, told_tag, events, past, and_then}
use Rattle.apart_courses.specs.Losses.{Step, log_of, disk_of, IsCourseWithLosses}
use Rattle.apart_courses.specs.Statements.{HasMarks, IsLine, AreLines}
use Rattle.event_schedule.proofs.ScheduleLemmas.{after, after-reverse}
use Rattle.event_schedule.proofs.TranscriptLemmas.{shape-same}
use Rattle.ideal_masks.proofs.TwoWorlds.{two_worlds}
use Rattle.apart_courses.proofs.AgreeLemmas.{lines_all}
use Rattle.apart_courses.proofs.CutLemmas.{course_of}
use Rattle.apart_isolation.specs.Statements.{AgreeAfter, shifted}

-- each event of a past has one line with both contents
SameLines : Shape → Contents → Contents → List Event → Type 0
SameLines s c d [] = Unit {0}
SameLines s c d (e ∷ p) = (line s c p e ≡ line s d p e) × SameLines s c d p

same_after : (s : Shape) (c d : Contents) (p rest : List Event) → lines_after s c p rest ≡ lines_after s d p rest → SameLines s c d p → SameLines s c d (after p rest)
unfolding after lines_after SameLines
same_after s c d p [] same had = had
same_after s c d p (e ∷ rest) same had =
    let head : line s c p e ≡ line s d p e = cc same in
    let tail : lines_after s c (e ∷ p) rest ≡ lines_after s d (e ∷ p) rest = cc same in
    same_after s c d (e ∷ p) rest tail (head, had)

-- and so has each of an earlier past
same_before : (s : Shape) (c d : Contents) (p rest : List Event) → SameLines s c d (and_then p rest) → SameLines s c d p
unfolding SameLines
same_before s c d p [] same = same
same_before s c d p (e ∷ rest) same = (same_before s c d (e ∷ p) rest same).1

-- ---- what happens

line_of_other : (plan : PlanView) (x y : Readings) (m k : Masks) (log : List Happening) (h : Happening) → shape_of_readings plan.groups x ≡ shape_of_readings plan.groups y
    → SameLines (shape_of_readings plan.groups x) (contents_of_tables plan.groups x m) (contents_of_tables plan.groups y k) (past plan (h ∷ log)) → IsLine plan x m log h → IsLine plan y k log h
unfolding SameLines
line_of_other plan x y m k log (Said f) shape same is =
    sym (ap (λ s. frame s (contents_of_tables plan.groups y k) f.tag (past plan log)) shape) ∙ sym (ap frame_of same.0) ∙ is
line_of_other plan x y m k log (Headed (Took f)) shape same is =
    sym (ap (λ s. verdict s f.tag.kind f.tag.group f.tag.round f.tag.meter (past plan log)) shape) ∙ is
line_of_other plan x y m k log (Headed Passed) shape same is = tt
line_of_other plan x y m k log (Noticed g i (Read r reading)) shape same is = tt
line_of_other plan x y m k log (Noticed g i (Kept r set)) shape same is =
    sym (ap (λ s. is_effective s (Take (told_tag g r i)) (past plan log)) shape) ∙ is

lines_of_other : (plan : PlanView) (x y : Readings) (m k : Masks) (log : List Happening) → shape_of_readings plan.groups x ≡ shape_of_readings plan.groups y
    → SameLines (shape_of_readings plan.groups x) (contents_of_tables plan.groups x m) (contents_of_tables plan.groups y k) (past plan log) → AreLines plan x m log → AreLines plan y k log
lines_of_other plan x y m k [] shape same are = tt
lines_of_other plan x y m k (h ∷ log) shape same are = (
  line_of_other plan x y m k log h shape same are.0,
  lines_of_other plan x y m k log shape (same_before _ _ _ (past plan log) (events plan log h) same) are.1,
)

-- ---- two worlds

same_shifted : (groups : List Group) (x y : Readings) (m : Masks) (whole : List Event) → IsOfPlan groups x → Agree groups x y whole
    → SameLines (shape_of_readings groups x) (contents_of_tables groups x m) (contents_of_tables groups y (shift (offsets groups x y whole) m)) whole
unfolding SameLines
same_shifted groups x y m whole of_plan agree =
    let back : after [] (reverse whole) ≡ whole = after-reverse (reverse whole) ∙ reverse-reverse whole in
    let shape : shape_of_readings groups x ≡ shape_of_readings groups y = shape-same groups x y agree.presence in
    let k : Masks = shift (offsets groups x y whole) m in
    let one : transcript groups y k (reverse whole) ≡ transcript groups x m (reverse whole)
    = rw back at (two_worlds groups x y m (reverse whole) of_plan (rw back agree)) in
    rw back at (same_after (shape_of_readings groups x) (contents_of_tables groups x m) (contents_of_tables groups y k) [] (reverse whole)
    (sym one ∙ ap (λ s. lines_after s (contents_of_tables groups y k) [] (reverse whole)) (sym shape)) tt)

pub isolated : (plan : PlanView) (x y : Readings) (m : Masks) (steps : List Step) → 2 ≤ plan.w2 → IsOfPlan plan.groups x → IsCourseWithLosses plan m steps → HasMarks x (log_of steps)
    → AgreeAfter plan x y (log_of steps) → AreLines plan y (shifted plan x y m (log_of steps)) (log_of steps)
isolated plan x y m steps long of_plan course has agree =
    lines_of_other plan x y m (shifted plan x y m (log_of steps)) (log_of steps) (shape-same plan.groups x y agree.presence)
    (same_shifted plan.groups x y m (past plan (log_of steps)) of_plan agree)
    (lines_all plan x m (disk_of steps) (log_of steps) long has (course_of plan m steps course))
