-- The readings file of several registers: that of one reading, but a field that isn't empty has a number for each register, joined by `+`.
use Rattle.std.specs.Prelude.{◌≡◌, ℕ, ◌<◌, ◌≤◌, ◌^◌, ◌==◌, nat_lt, if◌then◌else◌, Bool, List, [], ◌∷◌, length, map, slice_index, slice_index_or, Option, Some, None, is_some, Result, Ok, Err}
use Rattle.std.specs.List.{list_all, range_with_len}
use Rattle.field_texts.specs.Numbers.{number_of}
use Rattle.field_texts.specs.Parts.{parts}
use Rattle.field_texts.specs.Sets.{with_first}
use Rattle.group_plan.specs.Plans.{PlanView}
use Rattle.group_plan.specs.Tables.{IsReadingTable, ReadingsView, Table, reading}
use Rattle.plan_files.specs.Faults.{Fails, unless}
use Rattle.plan_files.specs.Readings.{readings_by, rows_fault}
use Rattle.plan_files.specs.Rows.{file_rows}
use Rattle.plan_files.specs.declared.fault.Failed.{Failed}
use Rattle.plan_files.specs.declared.fault.FileCause.{FileCause}
use Rattle.plan_files.specs.declared.fault.FileCause.TheVariants as cause
use Rattle.plan_files.specs.declared.fault.FileFault.{FileFault}

-- ---- the type

-- a plan, and its table of readings of each register
pub record RegistersView : Type 0 where
  pub plan : PlanView
  pub tables : List (Table (Option ℕ))

-- the table of register k
abbrev pub table : RegistersView → ℕ → Table (Option ℕ)
table registers k = slice_index_or registers.tables k []

-- 2 to 8 registers, each a reading table of the plan, and a meter has a reading of all of them or of none
pub record AreRegisters (registers : RegistersView) : Type 0 where
  pub least : 2 ≤ length registers.tables
  pub most : length registers.tables ≤ 8
  pub tables : (k : ℕ) → k < length registers.tables → IsReadingTable registers.plan (table registers k)
  pub presence : (j k g r i : ℕ) → j < length registers.tables → k < length registers.tables
      → is_some (reading (table registers j) g r i) ≡ is_some (reading (table registers k) g r i)

-- ---- a field

-- the numbers that these parts write, where each writes one below 2^64
unfoldable pub numbers_in : List (List ℕ) → Option (List ℕ)
numbers_in [] = Some []
numbers_in (part ∷ more) = with_first (number_of part) (λ n. numbers_in more)

-- the numbers that a text writes, joined by `+`, where there are so many
unfoldable pub numbers_of : ℕ → List ℕ → Option (List ℕ)
numbers_of count text = if length (parts 43 text) == count then numbers_in (parts 43 text) else None

-- number k of a member's, where all are readings, in watt-hours
abbrev pub within_ranges : ℕ → Option (List ℕ) → Result (Option ℕ) FileCause
within_ranges k None = Err cause.Number
within_ranges k (Some numbers) = if list_all (λ n. nat_lt n (2 ^ 40)) numbers then Ok (Some (slice_index numbers k)) else Err cause.Range

-- what a field says of register k, one of so many: an empty one is an absent reading of each
unfoldable pub register_of : (count k : ℕ) → Bool → List ℕ → Result (Option ℕ) FileCause
register_of count k member text =
    if length text == 0 then Ok None else if member then within_ranges k (numbers_of count text) else Err cause.NotMember

-- ---- the file

-- the readings of each register that the rows say
abbrev pub registers_by : PlanView → ℕ → List (List (List ℕ)) → List ReadingsView
registers_by plan count rows = map (λ k. readings_by (register_of count k) plan rows) (range_with_len 0 count)

-- the readings of each of so many registers that the rows say of a plan, or the first fault
abbrev pub rows_say : PlanView → ℕ → List (List (List ℕ)) → Result (List ReadingsView) FileFault
rows_say plan count rows = unless (rows_fault (register_of count 0) plan 0 rows) (registers_by plan count rows)

-- the same of the bytes of a file
unfoldable pub tables_of : PlanView → ℕ → List ℕ → Result (List ReadingsView) FileFault
tables_of plan count bytes = rows_say plan count (file_rows bytes)

-- how the reading of so many registers ends; want of memory is free
abbrev pub RegistersEnd : PlanView → ℕ → List ℕ → Result RegistersView (Failed FileFault) → Type 0
RegistersEnd plan count bytes (Ok registers) =
    (registers.plan ≡ plan) × (tables_of plan count bytes ≡ Ok (map (λ t. record { plan = plan; table = t }) registers.tables))
RegistersEnd plan count bytes (Err failed) = Fails (tables_of plan count bytes) failed
