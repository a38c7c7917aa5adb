-- The readings file of a plan: one row for each group and round, ordered by group and then by round.
use Rattle.std.specs.Prelude.{ℕ, ◌+◌, ◌*◌, ◌/◌, ◌%◌, ◌^◌, ◌==◌, ◌&&◌, not, nat_lt, if◌then◌else◌, Bool, false, List, [], ◌∷◌, length, drop, bytes_eq, slice_index_or, Option, Some, None, Result, Ok, Err}
use Rattle.std.specs.Option.{option_map, option_or}
use Rattle.std.specs.Result.{result_err}
use Rattle.field_texts.specs.Numbers.{number_of, within}
use Rattle.group_plan.specs.Plans.{PlanView, size, name_of, is_member}
use Rattle.group_plan.specs.Tables.{ReadingsView, table_of}
use Rattle.plan_files.specs.Faults.{in_row, unless}
use Rattle.plan_files.specs.Rows.{file_rows}
use Rattle.plan_files.specs.declared.fault.FileCause.{FileCause}
use Rattle.plan_files.specs.declared.fault.FileCause.TheVariants as cause
use Rattle.plan_files.specs.declared.fault.FileFault.{FileFault}

-- a member's number as a reading, in watt-hours
abbrev pub within_range : Option ℕ → Result (Option ℕ) FileCause
within_range None = Err cause.Number
within_range (Some n) = if nat_lt n (2 ^ 40) then Ok (Some n) else Err cause.Range

-- what a field says: an empty one is an absent reading
unfoldable pub reading_of : Bool → List ℕ → Result (Option ℕ) FileCause
reading_of member text =
    if length text == 0 then Ok None else if member then within_range (number_of text) else Err cause.NotMember

-- what a field says, by whether its meter is a member of the round: its reading or none, or what is wrong with it
abbrev pub Says : Type 0
Says = Bool → List ℕ → Result (Option ℕ) FileCause

-- the first fault among the fields of group g in round r, of which the first is meter i's
unfoldable pub fields_fault : Says → PlanView → (g r i : ℕ) → List (List ℕ) → Option FileCause
fields_fault says plan g r i [] = None
fields_fault says plan g r i (text ∷ texts) =
    option_or (result_err (says (is_member plan.groups g r i) text)) (fields_fault says plan g r (i + 1) texts)

-- whether the number is there, and is n
abbrev pub is_number : ℕ → Option ℕ → Bool
is_number n None = false
is_number n (Some m) = m == n

-- whether a row is group g's in round r: it starts with the group's name and the round
unfoldable pub is_row_of : PlanView → (g r : ℕ) → List (List ℕ) → Bool
is_row_of plan g r fields =
    bytes_eq (slice_index_or fields 0 []) (name_of plan.groups g) && is_number r (within 0 (2 ^ 32) (number_of (slice_index_or fields 1 [])))

-- the first fault of the row that should be group g's in round r
unfoldable pub row_fault : Says → PlanView → (g r : ℕ) → List (List ℕ) → Option FileCause
row_fault says plan g r fields =
    if not (is_row_of plan g r fields) then Some cause.Row else
    if not (length fields == 2 + size plan.groups g) then Some cause.Fields else
    fields_fault says plan g r 0 (drop 2 fields)

-- how many rows the file of a plan has
abbrev pub rows_due : PlanView → ℕ
rows_due plan = length plan.groups * plan.rounds

-- the first fault of the rows that come after k others
unfoldable pub rows_fault : Says → PlanView → ℕ → List (List (List ℕ)) → Option FileFault
rows_fault says plan k [] = if nat_lt k (rows_due plan) then Some (in_row (k + 1) cause.Short) else None
rows_fault says plan k (row ∷ rows) =
    if nat_lt k (rows_due plan)
    then option_or (option_map (in_row (k + 1)) (row_fault says plan (k / plan.rounds) (k % plan.rounds) row)) (rows_fault says plan (k + 1) rows)
    else Some (in_row (k + 1) cause.Extra)

-- the reading that a field without fault says
abbrev pub reading_or_none : Result (Option ℕ) FileCause → Option ℕ
reading_or_none (Ok value) = value
reading_or_none (Err what) = None

-- the reading of meter i in the row of group g in round r
unfoldable pub reading_in : Says → PlanView → (g r : ℕ) → List (List ℕ) → ℕ → Option ℕ
reading_in says plan g r fields i = reading_or_none (says (is_member plan.groups g r i) (slice_index_or fields (2 + i) []))

-- the reading of meter i of group g in round r among the rows of a file
abbrev pub reading_at : Says → PlanView → List (List (List ℕ)) → (g r i : ℕ) → Option ℕ
reading_at says plan rows g r i = reading_in says plan g r (slice_index_or rows (g * plan.rounds + r) []) i

-- the readings that the rows say
abbrev pub readings_by : Says → PlanView → List (List (List ℕ)) → ReadingsView
readings_by says plan rows = record { plan = plan; table = table_of plan (reading_at says plan rows) }

-- the readings that the bytes of a file say of a plan, or its first fault
unfoldable pub readings_of : PlanView → List ℕ → Result ReadingsView FileFault
readings_of plan bytes = unless (rows_fault reading_of plan 0 (file_rows bytes)) (readings_by reading_of plan (file_rows bytes))
