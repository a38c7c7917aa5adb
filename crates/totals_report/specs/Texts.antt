-- The text of a list of rows: a heading, and one line for each row.
use Rattle.std.specs.Prelude.{ℕ, List, [], ◌∷◌, ◌++◌, codes, decimal, length}
use Rattle.std.specs.List.{flat_map}
use Rattle.field_texts.specs.Sets.{numbers_text}
use Rattle.transcript_text.specs.Spelling.{ended, joined}
use Rattle.totals_report.specs.declared.row.ReportRow.{ReportRow}
use Rattle.totals_report.specs.declared.row.RowOutcome.{RowOutcome}
use Rattle.totals_report.specs.declared.row.RowOutcome.TheVariants.{Total, Lacking, Thin, Running}
use Rattle.totals_report.specs.Counts.{counted, is_total, is_lacking, is_thin, is_running}

-- the word of an outcome
abbrev pub outcome_word : RowOutcome → List ℕ
outcome_word (Total total) = codes "total"
outcome_word Lacking = codes "none"
outcome_word Thin = codes "thin"
outcome_word Running = codes "open"

-- the number beside that word, where it is a total
abbrev pub total_text : RowOutcome → List ℕ
total_text (Total total) = decimal total
total_text _ = []

-- the fields of a row: name, round, number of survivors, missing set, outcome, total
abbrev pub fields_of : ReportRow → List (List ℕ)
fields_of row =
    row.name ∷ decimal row.round ∷ decimal row.survivors ∷ numbers_text row.missing ∷ outcome_word row.outcome ∷ total_text row.outcome ∷ []

-- the line of a row, without its newline
unfoldable pub row_line : ReportRow → List ℕ
row_line row = joined (fields_of row)

abbrev pub heading : List ℕ
heading = codes "group,round,survivors,missing,outcome,total"

-- the lines of some rows, each with its newline
unfoldable pub lines_text : List ReportRow → List ℕ
lines_text rows = flat_map (λ row. ended (row_line row)) rows

-- the text of a report with these rows
abbrev pub rows_text : List ReportRow → List ℕ
rows_text rows = ended heading ++ lines_text rows

-- how many rows there are, and how many of each outcome: a line with its newline
unfoldable pub counts_text : List ReportRow → List ℕ
counts_text rows = ended (
    (codes "rounds=" ++ decimal (length rows)) ++ (codes " totals=" ++ decimal (counted is_total rows)) ++ (codes " none=" ++ decimal (counted is_lacking rows))
    ++ (codes " thin=" ++ decimal (counted is_thin rows)) ++ (codes " open=" ++ decimal (counted is_running rows)))
