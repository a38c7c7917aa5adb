-- The rows that a reader of a file has left.
use Rattle.std.specs.Prelude.{◌≡◌, ℕ, true, if◌then◌else◌, List, [], ◌∷◌, drop}
use Rattle.plan_files.specs.KeptRows.{IsBegun, IsKept, fields_in, rows_in}
use Rattle.plan_files.specs.declared.kept_row.FileRow.{FileRow}
use Rattle.plan_files.specs.declared.row_reader.RowReader.{RowReader}

-- the rows from the current one on
abbrev pub rows_left : RowReader → List (List (List ℕ))
rows_left rows = if rows.has_row then rows_in rows.row.start.now else []

-- so much of the current row is read as is kept
abbrev pub IsSound : RowReader → Type 0
IsSound rows = rows.has_row ≡ true → IsBegun rows.row rows.left.now

-- the row is the current one
pub record IsCurrent (rows : RowReader) (row : FileRow) : Type 0 where
  pub first : rows_left rows ≡ fields_in row ∷ drop 1 (rows_left rows)
  pub kept : IsKept row
