-- The rows of a file: those that `csv` reads in its bytes by default, after a byte order mark.
use Rattle.std.specs.Prelude.{ℕ, List}
use Rattle.csv.specs.Reading.{default_config, records, strip_bom}

-- the rows of a file, each a list of fields
abbrev pub file_rows : List ℕ → List (List (List ℕ))
file_rows bytes = records default_config (strip_bom bytes)
