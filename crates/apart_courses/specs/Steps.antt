-- What may happen after a log: what the contracts of a head end and of a meter let them append and say. They say only what the part of
-- their journals gives that is on the disk.
use Rattle.std.specs.Prelude.{◌≡◌, ◌<◌, ◌≤◌, ◌⊎◌, Contains, ℕ, true, take, List, [], ◌∷◌, slice_get, Some, Ok}
use Rattle.missing_round.specs.Masks.{Masks}
use Rattle.group_plan.specs.Plans.{PlanView}
use Rattle.meter_frames.specs.declared.Frame.{Frame}
use Rattle.head_end.specs.declared.answers.Logged.{Logged}
use Rattle.head_end.specs.declared.answers.Logged.TheVariants.{Took, Passed}
use Rattle.head_end.specs.declared.answers.Reply.TheVariants.{Fresh}
use Rattle.head_end.specs.declared.answers.TickLine.TheVariants.{Announce}
use Rattle.head_end.specs.Journal.{passed}
use Rattle.head_end.specs.Lines.{tick_lines, again_lines}
use Rattle.head_end.specs.Replies.{reply, can_pass}
use Rattle.meter_apart.specs.declared.answers.Noted.TheVariants.{Read, Kept}
use Rattle.meter_apart.specs.declared.part.Part.{Part}
use Rattle.meter_apart.specs.Journal.{marked, kept}
use Rattle.meter_apart.specs.Replies.{to_reading, to_frame, is_first_reading, is_first_answer}
use Rattle.meter_apart.specs.Statements.{HaveSameWords}
use Rattle.apart_courses.specs.Courses.{Happening, Headed, Noticed, Said, head_journal, meter_journal, told_tag, WasSaid}

-- a meter's part of the plan: its group, the rounds, and its numbers
pub record IsPartOf (plan : PlanView) (g i : ℕ) (part : Part) : Type 0 where
  pub home : slice_get part.home.groups 0 ≡ slice_get plan.groups g
  pub rounds : part.home.rounds ≡ plan.rounds
  pub group : part.group ≡ g
  pub meter : part.meter ≡ i

-- a meter's own table, over its group alone, has its words of the plan's table
abbrev pub HasOwnWords : ℕ → ℕ → Masks → Masks → Type 0
HasOwnWords g i n m = (r : ℕ) → HaveSameWords i (n.own 0 r) (n.pair 0 r) (m.own g r) (m.pair g r)

-- ---- what is said

-- an announcement that the head end says after a journal: in the lines of a tick that has passed, or among those that are said again
abbrev pub IsInTick : PlanView → List Logged → Frame → Type 0
IsInTick plan journal f = (t : ℕ) × (t < passed journal) × Contains (tick_lines plan journal t) (Announce f)

abbrev pub IsSaidAgain : PlanView → List Logged → Frame → Type 0
IsSaidAgain plan journal f = Contains (again_lines plan journal) (Announce f)

abbrev pub IsAnnouncing : PlanView → List Logged → Frame → Type 0
IsAnnouncing plan journal f = IsInTick plan journal f ⊎ IsSaidAgain plan journal f

-- how many lines of each journal are on the disk
pub record Disk : Type 0 where
  pub head : ℕ
  pub meter : ℕ → ℕ → ℕ

-- the first lines of the head end's journal, which are on the disk, have this announcement
abbrev pub IsAnnouncedOn : PlanView → Disk → List Happening → Frame → Type 0
IsAnnouncedOn plan disk log f = (k : ℕ) × (k ≤ disk.head) × IsAnnouncing plan (take k (head_journal log)) f

-- the frame of a reading that the first lines of its meter's journal have, which are on the disk
pub record IsReadingOf (plan : PlanView) (m : Masks) (disk : Disk) (log : List Happening) (f : Frame) : Type 0 where
  pub part : Part
  pub own : Masks
  pub reading : ℕ
  pub lines : ℕ
  pub on_disk : lines ≤ disk.meter f.tag.group f.tag.meter
  pub is_part : IsPartOf plan f.tag.group f.tag.meter part
  pub has_own : HasOwnWords f.tag.group f.tag.meter own m
  pub is_marked : marked (take lines (meter_journal f.tag.group f.tag.meter log)) f.tag.round ≡ Some reading
  pub says : to_reading part own (take lines (meter_journal f.tag.group f.tag.meter log)) f.tag.round reading ≡ Ok f

-- the answer to a set that they have
pub record IsAnswerOf (plan : PlanView) (m : Masks) (disk : Disk) (log : List Happening) (f : Frame) : Type 0 where
  pub part : Part
  pub own : Masks
  pub heard : Frame
  pub lines : ℕ
  pub on_disk : lines ≤ disk.meter f.tag.group f.tag.meter
  pub is_part : IsPartOf plan f.tag.group f.tag.meter part
  pub has_own : HasOwnWords f.tag.group f.tag.meter own m
  pub is_kept : kept (take lines (meter_journal f.tag.group f.tag.meter log)) heard.tag.round ≡ Some heard.missing
  pub says : to_frame part own (take lines (meter_journal f.tag.group f.tag.meter log)) heard ≡ Ok f

-- ---- steps

-- an announcement of this set to the meter was said
abbrev pub WasTold : ℕ → ℕ → ℕ → List ℕ → List Happening → Type 0
WasTold g r i set log = WasSaid (record { tag = told_tag g r i; missing = set; word = 0 }) log

abbrev pub MayHappen : PlanView → Masks → Disk → List Happening → Happening → Type 0
MayHappen plan m disk log (Headed (Took f)) = WasSaid f log × (reply plan (head_journal log) f ≡ Fresh)
MayHappen plan m disk log (Headed Passed) = can_pass plan (head_journal log) ≡ true
MayHappen plan m disk log (Noticed g i (Read r reading)) = (part : Part) × IsPartOf plan g i part × (is_first_reading part (meter_journal g i log) r reading ≡ true)
MayHappen plan m disk log (Noticed g i (Kept r set)) = (part : Part) × IsPartOf plan g i part × WasTold g r i set log × (is_first_answer part (meter_journal g i log) r set ≡ true)
MayHappen plan m disk log (Said f) = IsAnnouncedOn plan disk log f ⊎ (IsReadingOf plan m disk log f ⊎ IsAnswerOf plan m disk log f)

-- each of these happened when it might
abbrev pub IsCourse : PlanView → Masks → Disk → List Happening → Type 0
IsCourse plan m disk [] = Unit {0}
IsCourse plan m disk (h ∷ before) = MayHappen plan m disk before h × IsCourse plan m disk before
