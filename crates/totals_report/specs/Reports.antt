-- The report and the summary of a plan.
use Rattle.std.specs.Prelude.{ℕ, List, ◌++◌, length, map, codes, decimal}
use Rattle.std.specs.List.{flat_map, range_with_len}
use Rattle.missing_round.specs.Sets.{less}
use Rattle.group_plan.specs.Plans.{PlanView, members, name_of}
use Rattle.run_rows.specs.Report.{Row, OpenRow, ThinRow, TotalRow, NoneRow}
use Rattle.run_rows.specs.Summary.{Summary}
use Rattle.totals_report.specs.declared.row.ReportRow.{ReportRow}
use Rattle.totals_report.specs.declared.row.RowOutcome.{RowOutcome}
use Rattle.totals_report.specs.declared.row.RowOutcome.TheVariants.{Total, Lacking, Thin, Running}
use Rattle.transcript_text.specs.Spelling.{ended}
use Rattle.totals_report.specs.Texts.{rows_text}

-- the survivors of a round
abbrev pub survivors_of : Row → List ℕ
survivors_of (OpenRow survivors) = survivors
survivors_of (ThinRow survivors) = survivors
survivors_of (TotalRow survivors total) = survivors
survivors_of (NoneRow survivors) = survivors

-- how a round ended, or that it has not ended
abbrev pub row_outcome : Row → RowOutcome
row_outcome (OpenRow survivors) = Running
row_outcome (ThinRow survivors) = Thin
row_outcome (TotalRow survivors total) = Total total
row_outcome (NoneRow survivors) = Lacking

-- the row of round r of group g; missing are the members that are no survivors
abbrev pub report_row : PlanView → ℕ → ℕ → Row → ReportRow
report_row plan g r row = record {
  name = name_of plan.groups g;
  round = r;
  survivors = length (survivors_of row);
  missing = less (members plan.groups g r) (survivors_of row);
  outcome = row_outcome row;
}

-- the rows of a group, by round
abbrev pub group_rows : PlanView → (ℕ → ℕ → Row) → ℕ → List ReportRow
group_rows plan row_at g = map (λ r. report_row plan g r (row_at g r)) (range_with_len 0 plan.rounds)

-- the rows of a plan, by group and then by round
unfoldable pub report_rows : PlanView → (ℕ → ℕ → Row) → List ReportRow
report_rows plan row_at = flat_map (group_rows plan row_at) (range_with_len 0 (length plan.groups))

-- the text of the report
abbrev pub report_text : PlanView → (ℕ → ℕ → Row) → List ℕ
report_text plan row_at = rows_text (report_rows plan row_at)

-- the line of the summary, with its newline
unfoldable pub summary_text : Summary → List ℕ
summary_text s = ended (
    (codes "rounds=" ++ decimal s.rounds) ++ (codes " totals=" ++ decimal s.totals) ++ (codes " none=" ++ decimal s.nones)
    ++ (codes " thin=" ++ decimal s.thins) ++ (codes " sends=" ++ decimal s.sends) ++ (codes " takes=" ++ decimal s.takes))
