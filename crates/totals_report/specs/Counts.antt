-- What a summary counts.
use Rattle.std.specs.Prelude.{ℕ, Bool, true, false, List, count_by}
use Rattle.run_rows.specs.Summary.{Summary}
use Rattle.totals_report.specs.declared.row.RowOutcome.{RowOutcome}
use Rattle.totals_report.specs.declared.row.RowOutcome.TheVariants.{Total, Lacking, Thin, Running}
use Rattle.totals_report.specs.declared.row.ReportRow.{ReportRow}
use Rattle.totals_report.specs.declared.counts.Counts.{Counts}

-- the summary with these counts
abbrev pub summary_of : Counts → Summary
summary_of c = record { rounds = c.rounds; totals = c.totals; nones = c.nones; thins = c.thins; sends = c.sends; takes = c.takes }

-- the rows with a total, those with none, those of thin rounds, and those of rounds that have not ended
abbrev pub is_total : RowOutcome → Bool
is_total (Total total) = true
is_total _ = false

abbrev pub is_lacking : RowOutcome → Bool
is_lacking Lacking = true
is_lacking _ = false

abbrev pub is_thin : RowOutcome → Bool
is_thin Thin = true
is_thin _ = false

abbrev pub is_running : RowOutcome → Bool
is_running Running = true
is_running _ = false

-- how many of the rows have such an outcome
abbrev pub counted : (RowOutcome → Bool) → List ReportRow → ℕ
counted has rows = count_by (λ row. has row.outcome) rows
