-- How reading a report ends, without a reader: with rows whose text the bytes are, or at the first faulty line.
use Rattle.std.specs.Prelude.{◌≡◌, ◌≢◌, ℕ, ◌+◌, List, [], ◌++◌, length, ◌⊎◌, Result, Ok, Err, ⊤}
use Rattle.totals_report.specs.declared.row.ReportRow.{ReportRow}
use Rattle.totals_report.specs.declared.row.ReportError.{ReportError}
use Rattle.totals_report.specs.declared.row.ReportError.TheVariants.{Line, Memory}
use Rattle.totals_report.specs.Rows.{AreRows, IsRow}
use Rattle.transcript_text.specs.Spelling.{ended}
use Rattle.totals_report.specs.Texts.{heading, row_line, rows_text}

-- the text begins with this line and its newline
abbrev pub Begins : List ℕ → List ℕ → Type 0
Begins line text = (rest : List ℕ) × (text ≡ ended line ++ rest)

-- the bytes are the text of these rows, and behind it something that does not begin with the line of a row
pub record StopsBehind (rows : List ReportRow) (rest bytes : List ℕ) : Type 0 where
  pub right : AreRows rows
  pub text : bytes ≡ rows_text rows ++ rest
  pub more : rest ≢ []
  pub faulty : (row : ReportRow) → IsRow row → ¬ Begins (row_line row) rest

-- the first faulty line is line n: line 1 where the text does not begin with the heading, else the one behind the right lines
abbrev pub IsFirstFault : List ℕ → ℕ → Type 0
IsFirstFault bytes n =
    ((n ≡ 1) × ¬ Begins heading bytes) ⊎ ((rows : List ReportRow) × (rest : List ℕ) × (n ≡ length rows + 2) × StopsBehind rows rest bytes)

-- want of memory is free
abbrev pub ReadEnds : List ℕ → Result (List ReportRow) ReportError → Type 0
ReadEnds bytes (Ok rows) = (bytes ≡ rows_text rows) × AreRows rows
ReadEnds bytes (Err (Line n)) = IsFirstFault bytes n
ReadEnds bytes (Err Memory) = ⊤
