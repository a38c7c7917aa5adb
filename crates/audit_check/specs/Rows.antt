-- Two lists of rows, compared.
use Rattle.std.specs.Prelude.{◌≡◌, ◌≢◌, ℕ, List, take, slice_get, Option, Some, None}
use Rattle.totals_report.specs.declared.row.ReportRow.{ReportRow}

-- the lists are the same, or this is the first place, counted from 0, at which they differ
abbrev pub DifferAt : List ReportRow → List ReportRow → Option ℕ → Type 0
DifferAt xs ys None = xs ≡ ys
DifferAt xs ys (Some k) = (take k xs ≡ take k ys) × (slice_get xs k ≢ slice_get ys k)
