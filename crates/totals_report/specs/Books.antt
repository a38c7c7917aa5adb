-- The report and the summary of a book.
use Rattle.std.specs.Prelude.{ℕ}
use Rattle.event_schedule.specs.Frames.{contents_of_lines}
use Rattle.run_rows.specs.Ticks.{clock_of}
use Rattle.run_rows.specs.Report.{Row, outcome_row}
use Rattle.run_rows.specs.Summary.{Summary, summary_of_lines}
use Rattle.group_book.specs.Books.{BookView, past, shape_of}
use Rattle.group_book.specs.declared.answers.OutcomeState.{OutcomeState}
use Rattle.group_book.specs.declared.answers.OutcomeState.TheVariants as states
use Rattle.totals_report.specs.declared.row.RowOutcome.{RowOutcome}
use Rattle.totals_report.specs.declared.row.RowOutcome.TheVariants.{Total, Lacking, Thin, Running}

-- the row of a round by its outcome in the book; a total is the frame total of the journal
unfoldable pub row_in : BookView → ℕ → ℕ → Row
row_in b g r = outcome_row (shape_of b) (contents_of_lines b.journal).total g r (past b)

-- the summary of the book's lines
unfoldable pub summary_in : BookView → Summary
summary_in b = summary_of_lines (shape_of b) (clock_of b.presence.plan) (contents_of_lines b.journal).total b.journal

-- what a row says of the state of a round
abbrev pub outcome_of_state : OutcomeState → RowOutcome
outcome_of_state states.Running = Running
outcome_of_state states.Thin = Thin
outcome_of_state (states.Total total) = Total total
outcome_of_state (states.Lacking lacking) = Lacking
