-- The heads of journals, and how a text is judged by the head that it should have.
use Rattle.std.specs.Prelude.{ℕ, ◌+◌, ◌==◌, if◌then◌else◌, List, [], ◌∷◌, ◌++◌, map, codes}
use Rattle.group_plan.specs.Plans.{PlanView}
use Rattle.group_plan.specs.NewPlans.{stated}
use Rattle.meter_files.specs.Spelling as meter
use Rattle.meter_apart.specs.declared.part.Part.{Part}
use Rattle.meter_apart.specs.Parts.{group_of, home_of}
use Rattle.apart_lines.specs.declared.heads.HeadFound.{HeadFound}
use Rattle.apart_lines.specs.declared.heads.HeadFound.TheVariants.{Whole, Begun, Other}
use Rattle.transcript_text.specs.Spelling.{ended, joined, rounds_fields, windows_fields, groups_text, members_text, stated_spans}

-- the lines of a plan in the head of a transcript, from `rounds` to `begin`
unfoldable pub plan_lines : PlanView → List ℕ
plan_lines plan =
    ended (joined (rounds_fields plan.rounds)) ++ ended (joined (windows_fields plan.w1 plan.w2)) ++ groups_text (map stated plan.groups) ++ members_text (stated_spans plan) ++ ended (codes "begin")

-- the head of the journal of a head end of this plan
unfoldable pub journal_head : PlanView → List ℕ
journal_head plan = ended (codes "meteragg journal 1") ++ plan_lines plan

-- the head of the journal of the meter that has this part of a plan
abbrev pub meter_journal_head : Part → List ℕ
meter_journal_head part = meter.journal_head (home_of part) 0 (group_of part) part.meter

-- the number of the line behind a byte of line n
abbrev pub line_behind : ℕ → ℕ → ℕ
line_behind byte n = if byte == 10 then n + 1 else n

-- how a text begins, by the head that it should have, of which the first byte is in line n: with all of it, or it ends within it, or another byte
-- stands in this line
abbrev pub head_found : ℕ → (head text : List ℕ) → HeadFound
head_found n [] text = Whole
head_found n (expected ∷ head) [] = Begun
head_found n (expected ∷ head) (found ∷ text) = if expected == found then head_found (line_behind expected n) head text else Other n
