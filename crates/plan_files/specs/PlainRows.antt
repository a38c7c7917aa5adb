-- Files of plain rows: fields as they stand, joined by commas, and a newline at the end of each row.
use Rattle.std.specs.Prelude.{◌≡◌, ℕ, ◌==◌, ◌&&◌, not, nat_lt, Bool, true, false, List, [], ◌∷◌, ◌++◌, length}
use Rattle.std.specs.List.{flat_map, list_all}
use Rattle.plan_files.specs.Rows.{file_rows}

-- a byte of ASCII, and no comma, quote, carriage return or newline
abbrev pub is_plain_byte : ℕ → Bool
is_plain_byte c = nat_lt c 128 && not (c == 44) && not (c == 34) && not (c == 13) && not (c == 10)

abbrev pub is_plain : List ℕ → Bool
is_plain field = list_all is_plain_byte field

-- a row of plain fields, the first of which isn't empty
abbrev pub is_plain_row : List (List ℕ) → Bool
is_plain_row [] = false
is_plain_row (first ∷ rest) = not (length first == 0) && list_all is_plain (first ∷ rest)

-- what stands behind the first field of a row
abbrev pub rest_text : List (List ℕ) → List ℕ
rest_text [] = 10 ∷ []
rest_text (field ∷ fields) = 44 ∷ (field ++ rest_text fields)

-- the text of a row
abbrev pub row_text : List (List ℕ) → List ℕ
row_text [] = []
row_text (first ∷ rest) = first ++ rest_text rest

-- the text of rows, one after another
abbrev pub file_text : List (List (List ℕ)) → List ℕ
file_text rows = flat_map row_text rows

-- the text of plain rows is read as these rows
abbrev pub PlainRowsAreRead : Type 0
PlainRowsAreRead = (rows : List (List (List ℕ))) → list_all is_plain_row rows ≡ true → file_rows (file_text rows) ≡ rows
