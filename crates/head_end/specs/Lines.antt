-- What a head end says for a tick, when it is asked again, and in its report.
use Rattle.std.specs.Prelude.{ℕ, ◌+◌, ◌-◌, ◌==◌, nat_lt, nat_le, not, ◌&&◌, if◌then◌else◌, List, [], ◌∷◌, ◌++◌, length, map, Option, Some, None}
use Rattle.std.specs.List.{flat_map, range_with_len}
use Rattle.group_plan.specs.declared.Kind.TheVariants.{Announcement}
use Rattle.group_plan.specs.Plans.{PlanView}
use Rattle.round_machine.specs.declared.Ending.{Ending}
use Rattle.round_machine.specs.declared.Ending.TheVariants as endings
use Rattle.run_rows.specs.Ticks.{tag_of}
use Rattle.run_rows.specs.Report.{Row, OpenRow, ThinRow, TotalRow, NoneRow}
use Rattle.totals_report.specs.declared.row.ReportRow.{ReportRow}
use Rattle.totals_report.specs.declared.row.RowOutcome.{RowOutcome}
use Rattle.totals_report.specs.declared.row.RowOutcome.TheVariants as outcomes
use Rattle.totals_report.specs.Reports.{report_row, report_rows}
use Rattle.head_end.specs.declared.answers.Logged.{Logged}
use Rattle.head_end.specs.declared.answers.TickLine.{TickLine}
use Rattle.head_end.specs.declared.answers.TickLine.TheVariants as said
use Rattle.head_end.specs.Journal.{is_closed, is_ended, survivors, missing, is_announced, lacking, total}

-- ---- the report

-- what an end of the round would say
abbrev pub ending : PlanView → List Logged → ℕ → ℕ → Ending
ending plan journal g r =
    if not (is_closed plan journal r) then endings.NotClosed else
    if not (is_announced plan journal g r) then endings.Thin else
    if length (lacking plan journal g r) == 0 then endings.Total (total journal g r (survivors plan journal g r)) else
    endings.Lacking (lacking plan journal g r)

-- the row of a round that has ended so, with these survivors
abbrev pub row_of : List ℕ → Ending → Row
row_of survivors (endings.Total sum) = TotalRow survivors sum
row_of survivors (endings.Lacking set) = NoneRow survivors
row_of survivors endings.Thin = ThinRow survivors
row_of survivors endings.Already = OpenRow survivors
row_of survivors endings.NotClosed = OpenRow survivors

-- how a round that has ended so stands in the report
abbrev pub outcome_of : Ending → RowOutcome
outcome_of (endings.Total sum) = outcomes.Total sum
outcome_of (endings.Lacking set) = outcomes.Lacking
outcome_of endings.Thin = outcomes.Thin
outcome_of endings.Already = outcomes.Running
outcome_of endings.NotClosed = outcomes.Running

-- the row of a round; one that has not ended is open
abbrev pub row_in : PlanView → List Logged → ℕ → ℕ → Row
row_in plan journal g r =
    if is_ended plan journal r then row_of (survivors plan journal g r) (ending plan journal g r) else OpenRow (survivors plan journal g r)

-- the rows of the report
abbrev pub rows : PlanView → List Logged → List ReportRow
rows plan journal = report_rows plan (row_in plan journal)

-- ---- the lines of a tick

-- the round, of so many, that began so many ticks before tick t, where there is one
abbrev pub round_before : ℕ → ℕ → ℕ → Option ℕ
round_before rounds ago t = if nat_le ago t && nat_lt (t - ago) rounds then Some (t - ago) else None

-- the announcement of a missing set to meter i
abbrev pub announcement : ℕ → ℕ → List ℕ → ℕ → TickLine
announcement g r set i = said.Announce (record { tag = tag_of Announcement g r i; missing = set; word = 0 })

-- the survivors whose answer lacks, by what an end of the round would say: none where the round isn't announced
abbrev pub lacking_by : Ending → List ℕ
lacking_by (endings.Lacking set) = set
lacking_by _ = []

abbrev pub lacking_in : PlanView → List Logged → ℕ → ℕ → List ℕ
lacking_in plan journal g r = lacking_by (ending plan journal g r)

abbrev pub lacking_lines : ℕ → ℕ → List ℕ → List TickLine
lacking_lines g r [] = []
lacking_lines g r (i ∷ rest) = said.Lacking g r (i ∷ rest) ∷ []

-- of round r of group g, which ends: whose answers lack, where there are such, and its row
abbrev pub end_lines : PlanView → List Logged → ℕ → ℕ → List TickLine
end_lines plan journal r g =
    lacking_lines g r (lacking_in plan journal g r) ++ said.Row (report_row plan g r (row_in plan journal g r)) ∷ []

-- of round r of group g, which closes: its survivors, its missing set, and whether it is announced
abbrev pub closed_line : PlanView → List Logged → ℕ → ℕ → TickLine
closed_line plan journal r g =
    said.Closed g r (length (survivors plan journal g r)) (missing plan journal g r) (is_announced plan journal g r)

-- and where it is announced, the announcement to each survivor
abbrev pub announced_lines : PlanView → List Logged → ℕ → ℕ → List TickLine
announced_lines plan journal r g =
    if is_announced plan journal g r then map (announcement g r (missing plan journal g r)) (survivors plan journal g r) else []

abbrev pub close_lines : PlanView → List Logged → ℕ → ℕ → List TickLine
close_lines plan journal r g = closed_line plan journal r g ∷ announced_lines plan journal r g

-- the lines of a round, by group
abbrev pub by_groups : PlanView → (ℕ → ℕ → List TickLine) → Option ℕ → List TickLine
by_groups plan lines None = []
by_groups plan lines (Some r) = flat_map (lines r) (range_with_len 0 (length plan.groups))

-- the lines of the rounds that end in tick t, and of those that close in it
abbrev pub ended_in : PlanView → List Logged → ℕ → List TickLine
ended_in plan journal t = by_groups plan (end_lines plan journal) (round_before plan.rounds (plan.w1 + plan.w2) t)

abbrev pub closed_in : PlanView → List Logged → ℕ → List TickLine
closed_in plan journal t = by_groups plan (close_lines plan journal) (round_before plan.rounds plan.w1 t)

-- the lines of tick t
abbrev pub tick_lines : PlanView → List Logged → ℕ → List TickLine
tick_lines plan journal t = ended_in plan journal t ++ closed_in plan journal t

-- ---- asked again

-- of a round: the announcement to each survivor whose answer lacks, where the round is announced and has not ended
abbrev pub again_of : PlanView → List Logged → ℕ → ℕ → List TickLine
again_of plan journal r g =
    if is_ended plan journal r then [] else map (announcement g r (missing plan journal g r)) (lacking_in plan journal g r)

-- of all rounds, by round and group
abbrev pub again_lines : PlanView → List Logged → List TickLine
again_lines plan journal = flat_map (λ r. by_groups plan (again_of plan journal) (Some r)) (range_with_len 0 plan.rounds)
