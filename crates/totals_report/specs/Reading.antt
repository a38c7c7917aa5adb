-- The rows that a text spells, line by line, or the first line that is not of the form.
use Rattle.std.specs.Prelude.{◌≡◌, ℕ, ◌+◌, if◌then◌else◌, List, [], ◌∷◌, codes, bytes_eq, Option, None, Some, Result, Ok, Err, ⊤}
use Rattle.std.specs.Option.{option_map}
use Rattle.group_plan.specs.Names.{is_name}
use Rattle.field_texts.specs.Numbers.{number_of, within}
use Rattle.field_texts.specs.Sets.{set_of}
use Rattle.field_texts.specs.Parts.{parts}
use Rattle.totals_report.specs.declared.row.ReportRow.{ReportRow}
use Rattle.totals_report.specs.declared.row.RowOutcome.{RowOutcome}
use Rattle.totals_report.specs.declared.row.RowOutcome.TheVariants.{Total, Lacking, Thin, Running}
use Rattle.totals_report.specs.declared.row.ReportError.{ReportError}
use Rattle.totals_report.specs.declared.row.ReportError.TheVariants.{Line, Memory}
use Rattle.totals_report.specs.Texts.{heading}

-- a step after one that gave something
infixl 10 ◌>>=◌
abbrev pub ◌>>=◌ : {A B : Type 0} → Option A → (A → Option B) → Option B
(Some x) >>= next = next x
None >>= next = None

-- ---- fields

-- the name that a text is, where it is one
abbrev pub name_spelled : List ℕ → Option (List ℕ)
name_spelled text = if is_name text then Some text else None

-- an outcome that has no number beside its word
abbrev pub without_total : RowOutcome → List ℕ → Option RowOutcome
without_total outcome total = if bytes_eq total [] then Some outcome else None

-- the outcome of its word and what stands beside it
unfoldable pub outcome_spelled : List ℕ → List ℕ → Option RowOutcome
outcome_spelled word total =
    if bytes_eq word (codes "total") then option_map Total (number_of total) else
    if bytes_eq word (codes "none") then without_total Lacking total else
    if bytes_eq word (codes "thin") then without_total Thin total else
    if bytes_eq word (codes "open") then without_total Running total else None

-- ---- lines

-- the row of six fields
unfoldable pub row_of : List (List ℕ) → Option ReportRow
row_of (name ∷ round ∷ survivors ∷ missing ∷ outcome ∷ total ∷ []) = do
  name ← name_spelled name
  round ← within 0 4096 (number_of round)
  survivors ← within 0 257 (number_of survivors)
  missing ← set_of 256 missing
  outcome ← outcome_spelled outcome total
  Some (record { name = name; round = round; survivors = survivors; missing = missing; outcome = outcome })
row_of _ = None

-- the row of a line before those of the lines that follow; line n is faulty where it has none
abbrev pub before : ℕ → Option ReportRow → Result (List ReportRow) ℕ → Result (List ReportRow) ℕ
before n None more = Err n
before n (Some row) (Ok rows) = Ok (row ∷ rows)
before n (Some row) (Err m) = Err m

-- what stands behind the last newline: nothing, or else a faulty line
abbrev pub no_rest : ℕ → List ℕ → Result (List ReportRow) ℕ
no_rest n [] = Ok []
no_rest n (byte ∷ bytes) = Err n

-- the rows of the lines from line n on, each with its newline; or the number of the first faulty line
unfoldable pub rows_from : ℕ → List (List ℕ) → Result (List ReportRow) ℕ
rows_from n [] = Ok []
rows_from n (rest ∷ []) = no_rest n rest
rows_from n (line ∷ next ∷ more) = before n (row_of (parts 44 line)) (rows_from (n + 1) (next ∷ more))

-- the rows of all lines but the heading, which is line 1
unfoldable pub rows_below : List (List ℕ) → Result (List ReportRow) ℕ
rows_below [] = Err 1
rows_below (rest ∷ []) = Err 1
rows_below (line ∷ next ∷ more) = if bytes_eq line heading then rows_from 2 (next ∷ more) else Err 1

-- the rows of a report's text, or the number of its first faulty line
unfoldable pub rows_of_text : List ℕ → Result (List ReportRow) ℕ
rows_of_text bytes = rows_below (parts 10 bytes)

-- a call answers what reading gives; want of memory is free
abbrev pub Gives : Result (List ReportRow) ℕ → Result (List ReportRow) ReportError → Type 0
Gives read (Ok rows) = read ≡ Ok rows
Gives read (Err (Line n)) = read ≡ Err n
Gives read (Err Memory) = ⊤
