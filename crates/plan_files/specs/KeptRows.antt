-- What is kept of a row: its first fields, and the first bytes of each.
use Rattle.std.specs.Prelude.{◌≡◌, ◌<◌, ◌≤◌, ◌+◌, ◌++◌, ◌==◌, ◌&&◌, ◌||◌, not, ℕ, nat_lt, Bool, true, false, drop, if◌then◌else◌, List, [], ◌∷◌, length, map, slice_index_or, take, Option, Some, None}
use Rattle.std.specs.Borrow.{Bor}
use Rattle.csv.specs.Machine.{Read, next_record}
use Rattle.csv.specs.Reading.{default_config, records_from}
use Rattle.csv.specs.Records.{fields_of, partial_of}
use Rattle.csv.specs.Records as csv
use Rattle.csv.specs.declared.parser.State.TheVariants as st
use Rattle.plan_files.specs.Fields.{behind_fields, first_field}
use Rattle.plan_files.specs.declared.kept_row.FileRow.{FileRow}

-- how many fields are kept: one more than a right row has
abbrev pub most_fields : ℕ
most_fields = 259

-- how many bytes of a field are kept: one more than a right one has that is no argument
abbrev pub most_bytes : ℕ
most_bytes = 168

-- what is kept of fields
abbrev pub kept_of : List (List ℕ) → List (List ℕ)
kept_of fields = map (take most_bytes) (take most_fields fields)

-- what is kept, with one field more
abbrev pub kept_with : List (List ℕ) → List ℕ → List (List ℕ)
kept_with kept text = if nat_lt (length kept) most_fields then kept ++ (take most_bytes text ∷ []) else kept

-- the row that bytes hold first, and what is behind it
abbrev pub next_row : List ℕ → Option Read
next_row bytes = next_record default_config st.StartRecord [] [] bytes

-- the rows that bytes hold
abbrev pub rows_in : List ℕ → List (List (List ℕ))
rows_in bytes = records_from default_config (length bytes + 1) st.StartRecord bytes

-- the fields of a row that was read
abbrev pub fields_or_none : Option Read → List (List ℕ)
fields_or_none None = []
fields_or_none (Some read) = read.0

-- all fields of a row
abbrev pub fields_in : FileRow → List (List ℕ)
fields_in row = fields_or_none (next_row row.start.now)

-- what is kept is of these fields, and the third of them begins where it is noted
pub record KeepsFields (row : FileRow) (fields : List (List ℕ)) : Type 0 where
  pub kept : fields_of row.kept ≡ kept_of fields
  pub third : 2 < length fields → (first_field row.third.now).0 ≡ slice_index_or fields 2 []

-- what is kept of a row is its own
abbrev pub IsKept : FileRow → Type 0
IsKept row = KeepsFields row (fields_in row)

-- the first field of the bytes ends where the rest begins, and what is to be kept of it is kept behind those before it
pub record KeepsField (bytes : List ℕ) (before : List (List ℕ)) (kept : csv.Row) (rest : List ℕ) : Type 0 where
  pub text : List ℕ
  pub field : first_field bytes ≡ (text, rest)
  pub added : fields_of kept ≡ kept_with before text
  pub none : partial_of kept ≡ []
  pub short : length rest ≤ length bytes

-- whether the bytes begin with a comma
abbrev pub is_at_comma : List ℕ → Bool
is_at_comma [] = false
is_at_comma (c ∷ cs) = c == 44

-- whether another field is kept: so many are, and the last of them ends where these bytes begin
abbrev pub goes_on : ℕ → List ℕ → Bool
goes_on count bytes = nat_lt count most_fields && is_at_comma bytes

-- a carriage return or a newline
abbrev pub is_line_end : ℕ → Bool
is_line_end c = (c == 13) || (c == 10)

-- no byte, or one that ends no line
abbrev pub starts_row : List ℕ → Bool
starts_row [] = true
starts_row (c ∷ cs) = not (is_line_end c)

-- the bytes and the rest of them hold the same row first, and the rest begins with no end of a line
pub record SkipsTo (bytes : List ℕ) (rest : List ℕ) : Type 0 where
  pub same : next_row bytes ≡ next_row rest
  pub starts : starts_row rest ≡ true

-- so much of a row is read as is kept, up to the end of a field, where these bytes begin
pub record IsBegun (row : FileRow) (left : List ℕ) : Type 0 where
  pub kept : IsKept row
  pub first : rows_in row.start.now ≡ fields_in row ∷ drop 1 (rows_in row.start.now)
  pub fields : List (List ℕ)
  pub behind : next_row row.start.now ≡ behind_fields fields left

-- the first row of the bytes is begun
pub record BeginsRow (bytes : List ℕ) (row : FileRow) (left : List ℕ) : Type 0 where
  pub rows : rows_in bytes ≡ rows_in row.start.now
  pub begun : IsBegun row left

-- the first row is begun, or there is none
abbrev pub ReadsRow : List ℕ → FileRow → Option (Bor (List ℕ)) → Type 0
ReadsRow bytes row None = rows_in bytes ≡ []
ReadsRow bytes row (Some left) = BeginsRow bytes row left.now

-- the rest is behind each row that goes on where these bytes begin
abbrev pub IsBehind : List ℕ → List ℕ → Type 0
IsBehind left rest =
    (start : List ℕ) (fields : List (List ℕ)) → next_row start ≡ behind_fields fields left → rows_in rest ≡ drop 1 (rows_in start)
