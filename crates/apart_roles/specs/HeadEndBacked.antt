-- Whatever a head end announces rests on what its journal has on the disk.
use Rattle.std.specs.Prelude.{◌≡◌, Contains, ℕ, false, if◌then◌else◌, List, [], ◌∷◌, ◌++◌, Option, Some, None}
use Rattle.std.specs.List.{flat_map}
use Rattle.group_plan.specs.Plans.{PlanView}
use Rattle.meter_frames.specs.declared.Frame.{Frame}
use Rattle.transcript_text.specs.Spelling.{ended}
use Rattle.head_end.specs.declared.answers.Logged.{Logged}
use Rattle.head_end.specs.declared.answers.TickLine.{TickLine}
use Rattle.head_end.specs.declared.answers.TickLine.TheVariants.{Announce}
use Rattle.apart_courses.specs.Steps.{IsInTick}
use Rattle.apart_lines.specs.declared.heard.ToHeadEnd.{ToHeadEnd}
use Rattle.apart_lines.specs.Journals.{logged_text}
use Rattle.desk_outside.specs.declared.wire.WireStep.{WireStep}
use Rattle.desk_outside.specs.declared.wire.WireStep.TheVariants.{Appended, Flushed}
use Rattle.apart_roles.specs.Inputs.{Came}
use Rattle.apart_roles.specs.HeadEndTurns.{Answer, is_flushed_to, logged_to, said_to, with_logged}
use Rattle.apart_roles.specs.HeadEndRuns.{run_journal, run_steps, said_in, with_came}

-- ---- the lines on the disk

-- the lines of the journal that are on the disk before an answer is said: all of them, where it brings the journal there
abbrev pub disk_with : PlanView → (journal disk : List Logged) → ToHeadEnd → List Logged
disk_with plan journal disk heard = if is_flushed_to journal heard then with_logged journal (logged_to plan journal heard) else disk

-- and behind all that came
abbrev pub run_disk : PlanView → (journal disk : List Logged) → List Came → List Logged
run_disk plan journal disk [] = disk
run_disk plan journal disk (came ∷ others) = run_disk plan (with_came plan journal came) (disk_with plan journal disk (said_in came)) others

-- ---- the same by steps

-- the text of lines
abbrev pub lines_logged : List Logged → List ℕ
lines_logged lines = flat_map (λ line. ended (logged_text line)) lines

-- what the journal has behind its head, and what of it is on the disk
pub record Texts : Type 0 where
  pub journal : List ℕ
  pub disk : List ℕ

abbrev pub texts_of : (journal disk : List Logged) → Texts
texts_of journal disk = record { journal = lines_logged journal; disk = lines_logged disk }

-- the same behind a step; a run empties and trims nothing
abbrev pub text_after : Texts → WireStep → Texts
text_after t (Appended bytes failed) = record t { journal = t.journal ++ bytes }
text_after t (Flushed false) = record t { disk = t.journal }
text_after t step = t

abbrev pub texts_after : Texts → List WireStep → Texts
texts_after t [] = t
texts_after t (step ∷ steps) = texts_after (text_after t step) steps

-- ---- what the laws say

-- the steps of a run leave the lines of its journal, and on the disk those lines
abbrev pub RunsWriteLines : Type 0
RunsWriteLines = (plan : PlanView) (journal disk : List Logged) (lines : List Came)
    → texts_after (texts_of journal disk) (run_steps plan journal lines) ≡ texts_of (run_journal plan journal lines) (run_disk plan journal disk lines)

-- the lines of ticks in an answer
abbrev pub lines_in_answer : Option Answer → List TickLine
lines_in_answer None = []
lines_in_answer (Some answer) = answer.lines

-- in a run that begins with the journal on the disk, each announcement in an answer is one of a tick that has passed, by the lines that are on
-- the disk before the answer is said
abbrev pub AnnouncementsAreOnDisk : Type 0
AnnouncementsAreOnDisk = (plan : PlanView) (journal : List Logged) (lines : List Came) (heard : ToHeadEnd) (f : Frame)
    → Contains (lines_in_answer (said_to plan (run_journal plan journal lines) heard)) (Announce f)
    → IsInTick plan (disk_with plan (run_journal plan journal lines) (run_disk plan journal journal lines) heard) f
