-- What meters mark: readings of members, within the limit.
use Rattle.std.proofs.Common.{◌≡◌, ℕ, ◌<◌, ◌^◌, Bool, true, false, ◌&&◌, List, [], ◌∷◌, ◌++◌, refl, sym, ap, ◌∙◌, subst, arith, inl, inr, ⊎_elim}
use Rattle.std.specs.Prelude.{◌⊎◌, ◌==◌, nat_lt, if◌then◌else◌, is_some, unwrap_or, Option, Some, None, Ok, Err}
use Rattle.std.proofs.lemmas.Bool.{false≢true, eqb-true, ltb-true}
use Rattle.missing_round.specs.Masks.{Masks}
use Rattle.group_plan.specs.Plans.{PlanView, is_member, is_member_of}
use Rattle.event_schedule.specs.Tables.{IsOfPlan, reading_at}
use Rattle.meter_apart.specs.declared.answers.Noted.{Noted}
use Rattle.meter_apart.specs.declared.answers.Noted.TheVariants.{Read, Kept}
use Rattle.meter_apart.specs.declared.part.Part.{Part}
use Rattle.meter_apart.specs.declared.answers.ReadingRefusal.TheVariants as unread
use Rattle.meter_apart.specs.Journal.{marked}
use Rattle.meter_apart.specs.Parts.{takes_part}
use Rattle.meter_apart.specs.Replies.{is_first, is_first_reading}
use Rattle.event_schedule.proofs.ListLemmas.{and_first, and_last}
use Rattle.apart_courses.specs.Courses.{Happening, Headed, Noticed, Said, meter_journal, marks}
use Rattle.apart_courses.specs.Steps.{Disk, IsPartOf, MayHappen, IsCourse}
use Rattle.apart_courses.specs.Losses.{Step, log_of, disk_of, IsCourseWithLosses}
use Rattle.apart_courses.proofs.CutLemmas.{course_of}

-- a reading that is marked was marked before, or is that of the line
now_or_before : (b : Bool) (here v q r : ℕ) → (q == r) ≡ b → (if b then Some here else None) ≡ Some v → Read q here ≡ Read r v
now_or_before true here v q r same is =
    let round : q ≡ r = eqb-true q r same in
    let value : here ≡ v = cc is in
    ap (λ n. Read n here) round ∙ ap (Read r) value
now_or_before false here v q r same is = absurd cc

split : (b : Bool) (here v : ℕ) (old new : Option ℕ) (line : Noted) (r : ℕ) → (if b then Some here else new) ≡ Some v
    → (new ≡ Some v → (old ≡ Some v) ⊎ (line ≡ Read r v)) → ((if b then Some here else old) ≡ Some v) ⊎ (line ≡ Read r v)
split true here v old new line r is later = inl is
split false here v old new line r is later = later is

marked_split : (j : List Noted) (line : Noted) (r v : ℕ) → marked (j ++ line ∷ []) r ≡ Some v → (marked j r ≡ Some v) ⊎ (line ≡ Read r v)
unfolding marked
marked_split [] (Read q x) r v is = inr (now_or_before (q == r) x v q r refl is)
marked_split [] (Kept q set) r v is = absurd cc
marked_split (Read q x ∷ j) line r v is = split (q == r) x v (marked j r) (marked (j ++ line ∷ []) r) line r is (marked_split j line r v)
marked_split (Kept q set ∷ j) line r v is = marked_split j line r v is

line_of : (here : Bool) (j : List Noted) (line : Noted) (r v : ℕ) → marked (if here then j ++ line ∷ [] else j) r ≡ Some v → (marked j r ≡ Some v) ⊎ ((here ≡ true) × (line ≡ Read r v))
line_of true j line r v is = ⊎_elim (λ before. inl before) (λ now. inr (refl, now)) (marked_split j line r v is)
line_of false j line r v is = inl is

-- ---- what a meter marks

-- a member's reading within the limit
Fits : PlanView → ℕ → ℕ → ℕ → ℕ → Type 0
Fits plan g r i v = (is_member plan.groups g r i ≡ true) × (nat_lt v (2 ^ 40) ≡ true)

first_by : (takes below : Bool) (before : Option ℕ) → is_first (if takes then if below then Ok before else Err unread.Range else Err unread.Round) ≡ true → (takes ≡ true) × (below ≡ true)
first_by true true before is = (refl, refl)
first_by true false before is = absurd (false≢true is)
first_by false below before is = absurd (false≢true is)

fits_first : (plan : PlanView) (g i r v : ℕ) (part : Part) (j : List Noted) → IsPartOf plan g i part → is_first_reading part j r v ≡ true → Fits plan g r i v
unfolding Fits
fits_first plan g i r v part j is_part first =
    let both = first_by (takes_part part r) (nat_lt v (2 ^ 40)) (marked j r) first in (
      ap (λ n. is_member plan.groups g r n) (sym is_part.meter)
          ∙ ap (λ o. is_member_of o r part.meter) (sym is_part.home)
          ∙ and_last (nat_lt r part.home.rounds) (is_member part.home.groups 0 r part.meter) both.0,
      both.1,
    )

marks_fit : (plan : PlanView) (m : Masks) (disk : Disk) (log : List Happening) → IsCourse plan m disk log → (g r i v : ℕ) → marks log g r i ≡ Some v → Fits plan g r i v
unfolding marked
marks_fit plan m disk [] course g r i v is = absurd cc
marks_fit plan m disk (Headed line ∷ log) course g r i v is = marks_fit plan m disk log course.1 g r i v is
marks_fit plan m disk (Said f ∷ log) course g r i v is = marks_fit plan m disk log course.1 g r i v is
marks_fit plan m disk (Noticed h k line ∷ log) course g r i v is =
    ⊎_elim (marks_fit plan m disk log course.1 g r i v)
    (λ now.
    let group : h ≡ g = eqb-true h g (and_first (h == g) (k == i) now.0) in
    let meter : k ≡ i = eqb-true k i (and_last (h == g) (k == i) now.0) in
    let may : MayHappen plan m disk log (Noticed h k (Read r v)) = subst (λ l. MayHappen plan m disk log (Noticed h k l)) now.1 course.0 in
    subst (λ n. Fits plan n r i v) group (subst (λ n. Fits plan h r n v) meter (fits_first plan h k r v may.0 (meter_journal h k log) may.1 may.2)))
    (line_of ((h == g) && (k == i)) (meter_journal g i log) line r v is)

-- ---- as a table

of_some : (o : Option ℕ) (P : Type 0) → ((v : ℕ) → o ≡ Some v → P) → is_some o ≡ true → P
of_some None P fits is = absurd (false≢true is)
of_some (Some v) P fits is = fits v refl

below : (o : Option ℕ) → ((v : ℕ) → o ≡ Some v → nat_lt v (2 ^ 40) ≡ true) → unwrap_or o 0 < 2 ^ 40
below None fits = omega arith
below (Some v) fits = ltb-true v (2 ^ 40) (fits v refl)

pub marks_are : (plan : PlanView) (m : Masks) (steps : List Step) → IsCourseWithLosses plan m steps
    → IsOfPlan plan.groups (marks (log_of steps)) × ((g r i : ℕ) → reading_at (marks (log_of steps)) g r i < 2 ^ 40)
unfolding Fits
marks_are plan m steps course =
    let fit = marks_fit plan m (disk_of steps) (log_of steps) (course_of plan m steps course) in (
      λ g r i. of_some (marks (log_of steps) g r i) (is_member plan.groups g r i ≡ true) (λ v is. (fit g r i v is).0),
      λ g r i. below (marks (log_of steps) g r i) (λ v is. (fit g r i v is).1),
    )
