-- The report of registers: the row of a round has a total of each register.
use Rattle.std.specs.Prelude.{ℕ, ◌+◌, ◌/◌, ◌%◌, ◌&&◌, if◌then◌else◌, List, [], ◌∷◌, ◌++◌, codes, decimal, drop, map, slice_index, is_some}
use Rattle.std.specs.List.{flat_map, range_with_len}
use Rattle.missing_round.specs.Sets.{less}
use Rattle.missing_round.specs.Words.{frame_total}
use Rattle.group_plan.specs.declared.Kind.{Kind}
use Rattle.group_plan.specs.declared.Kind.TheVariants.{Reading, Answer}
use Rattle.group_plan.specs.Plans.{PlanView, members}
use Rattle.event_schedule.specs.declared.Line.{Line}
use Rattle.event_schedule.specs.Events.{event_of, frame_of, is_send}
use Rattle.transcript_text.specs.Spelling.{ended}
use Rattle.totals_report.specs.declared.row.ReportRow.{ReportRow}
use Rattle.totals_report.specs.declared.row.RowOutcome.{RowOutcome}
use Rattle.totals_report.specs.declared.row.RowOutcome.TheVariants.{Total}
use Rattle.totals_report.specs.Texts.{row_line}
use Rattle.register_words.specs.declared.row.SideRow.{SideRow}
use Rattle.register_words.specs.Sides.{side_frame}

-- word k of the first of some rows, 0 where there is none
abbrev pub first_word_of : ℕ → List SideRow → ℕ
first_word_of k [] = 0
first_word_of k (row ∷ rows) = slice_index row.words k

-- how many rows a line has
abbrev pub row_count : Line → ℕ
row_count l = if is_some (side_frame l) then 1 else 0

-- word k of the first frame of a tag, 0 where there is none; the rows are those of the lines
abbrev pub first_side_word : ℕ → (g r i : ℕ) → Kind → List Line → List SideRow → ℕ
first_side_word k g r i kind [] rows = 0
first_side_word k g r i kind (l ∷ ls) rows =
    if is_send g r i kind (event_of l) && is_some (frame_of l) then first_word_of k rows
    else first_side_word k g r i kind ls (drop (row_count l) rows)

-- the frame total of these meters by word k
abbrev pub side_total : List Line → List SideRow → (g r : ℕ) → List ℕ → ℕ → ℕ
side_total ls rows g r meters k = frame_total (λ i. first_side_word k g r i Reading ls rows) (λ i. first_side_word k g r i Answer ls rows) meters

-- how many words each row has; 0 where there is no row
abbrev pub words_in : List SideRow → ℕ
words_in [] = 0
words_in (row ∷ rows) = row.count

-- the survivors of a round by its row: the members that are not missing
abbrev pub survivors_by : PlanView → (g r : ℕ) → ReportRow → List ℕ
survivors_by plan g r row = less (members plan.groups g r) row.missing

-- the totals of the further registers in the row of round r of group g, where it has one
abbrev pub further_totals : PlanView → List Line → List SideRow → (g r : ℕ) → ReportRow → RowOutcome → List ℕ
further_totals plan ls rows g r row (Total total) = map (side_total ls rows g r (survivors_by plan g r row)) (range_with_len 0 (words_in rows))
further_totals plan ls rows g r row _ = []

-- totals, each behind a `+`
abbrev pub totals_text : List ℕ → List ℕ
totals_text totals = flat_map (λ total. codes "+" ++ decimal total) totals

-- the line of a row: that of the report, and each further total behind a `+`
abbrev pub register_line : PlanView → List Line → List SideRow → (g r : ℕ) → ReportRow → List ℕ
register_line plan ls rows g r row = row_line row ++ totals_text (further_totals plan ls rows g r row row.outcome)

-- the lines of the report's rows from place n on: the rows of a plan stand by group and then by round
unfoldable pub lines_from : PlanView → List Line → List SideRow → ℕ → List ReportRow → List ℕ
lines_from plan ls rows n [] = []
lines_from plan ls rows n (row ∷ more) = ended (register_line plan ls rows (n / plan.rounds) (n % plan.rounds) row) ++ lines_from plan ls rows (n + 1) more

-- the first line
abbrev pub register_heading : List ℕ
register_heading = codes "group,round,survivors,missing,outcome,totals"

-- the text of the report
unfoldable pub register_report : PlanView → List Line → List SideRow → List ReportRow → List ℕ
register_report plan ls rows report = ended register_heading ++ lines_from plan ls rows 0 report
