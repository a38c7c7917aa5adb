-- Courses with flushes and losses of power, as a list of steps with the newest first.
use Rattle.std.specs.Prelude.{ℕ, ◌≤◌, ◌==◌, ◌&&◌, nat_lt, not, if◌then◌else◌, List, [], ◌∷◌, length}
use Rattle.missing_round.specs.Masks.{Masks}
use Rattle.group_plan.specs.Plans.{PlanView}
use Rattle.apart_courses.specs.Courses.{Happening, Headed, Noticed, Said, head_journal, meter_journal}
use Rattle.apart_courses.specs.Steps.{Disk, MayHappen}

-- something happens; from now on the first n lines of a journal are on the disk; or power is lost, and they are all that is left of it
pub data Step : Type 0 where
  Happens : (h : Happening) → Step
  HeadFlushes : (n : ℕ) → Step
  MeterFlushes : (g i n : ℕ) → Step
  HeadLoses : (n : ℕ) → Step
  MeterLoses : (g i n : ℕ) → Step

-- ---- what is left of a log

-- the log where the head end's journal has its first n lines alone
abbrev pub head_cut : ℕ → List Happening → List Happening
head_cut n [] = []
head_cut n (Headed line ∷ before) = if nat_lt (length (head_journal before)) n then Headed line ∷ head_cut n before else head_cut n before
head_cut n (Noticed g i line ∷ before) = Noticed g i line ∷ head_cut n before
head_cut n (Said f ∷ before) = Said f ∷ head_cut n before

-- and where the journal of meter i of group g has
abbrev pub meter_cut : ℕ → ℕ → ℕ → List Happening → List Happening
meter_cut g i n [] = []
meter_cut g i n (Headed line ∷ before) = Headed line ∷ meter_cut g i n before
meter_cut g i n (Noticed h k line ∷ before) =
    if ((h == g) && (k == i)) && not (nat_lt (length (meter_journal g i before)) n) then meter_cut g i n before else Noticed h k line ∷ meter_cut g i n before
meter_cut g i n (Said f ∷ before) = Said f ∷ meter_cut g i n before

-- what happened and was not lost
abbrev pub log_of : List Step → List Happening
log_of [] = []
log_of (Happens h ∷ before) = h ∷ log_of before
log_of (HeadFlushes n ∷ before) = log_of before
log_of (MeterFlushes g i n ∷ before) = log_of before
log_of (HeadLoses n ∷ before) = head_cut n (log_of before)
log_of (MeterLoses g i n ∷ before) = meter_cut g i n (log_of before)

-- what is on the disk
abbrev pub disk_of : List Step → Disk
disk_of [] = record { head = 0; meter = λ g i. 0 }
disk_of (Happens h ∷ before) = disk_of before
disk_of (HeadFlushes n ∷ before) = record { head = n; meter = (disk_of before).meter }
disk_of (MeterFlushes g i n ∷ before) = record { head = (disk_of before).head; meter = λ h k. if (h == g) && (k == i) then n else (disk_of before).meter h k }
disk_of (HeadLoses n ∷ before) = disk_of before
disk_of (MeterLoses g i n ∷ before) = disk_of before

-- ---- steps

-- what is on the disk is not lost
abbrev pub MayStep : PlanView → Masks → List Step → Step → Type 0
MayStep plan m before (Happens h) = MayHappen plan m (disk_of before) (log_of before) h
MayStep plan m before (HeadFlushes n) = ((disk_of before).head ≤ n) × (n ≤ length (head_journal (log_of before)))
MayStep plan m before (MeterFlushes g i n) = ((disk_of before).meter g i ≤ n) × (n ≤ length (meter_journal g i (log_of before)))
MayStep plan m before (HeadLoses n) = (disk_of before).head ≤ n
MayStep plan m before (MeterLoses g i n) = (disk_of before).meter g i ≤ n

-- each step was made when it might
abbrev pub IsCourseWithLosses : PlanView → Masks → List Step → Type 0
IsCourseWithLosses plan m [] = Unit {0}
IsCourseWithLosses plan m (step ∷ before) = MayStep plan m before step × IsCourseWithLosses plan m before
