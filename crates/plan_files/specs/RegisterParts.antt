-- How the tables of registers are kept, and filled in row by row and field by field.
use Rattle.std.specs.Prelude.{◌≡◌, ℕ, ◌<◌, ◌≤◌, ◌^◌, true, Bool, List, length, map, slice_index, slice_index_or, Option, Some, None, Result, Ok, Err}
use Rattle.arrayvec.specs.ArrayVec.{ArrayVec}
use Rattle.group_plan.specs.Plans.{PlanView}
use Rattle.group_plan.specs.Tables.{IsReadingTable, PutsReading, ReadingsView, absent}
use Rattle.plan_files.specs.Filling.{FillsRow}
use Rattle.plan_files.specs.Registers.{AreRegisters, RegistersView, numbers_of, register_of}
use Rattle.plan_files.specs.declared.fault.FileCause.{FileCause}

-- the readings of register k among these; none where there are fewer
abbrev pub nth : PlanView → List ReadingsView → ℕ → ReadingsView
nth plan tables k = slice_index_or tables k (absent plan)

-- tables as they are seen
abbrev pub view_of : PlanView → List ReadingsView → RegistersView
view_of plan tables = record { plan = plan; tables = map (λ t. t.table) tables }

-- each table is of the plan
abbrev pub AreOfPlan : PlanView → List ReadingsView → Type 0
AreOfPlan plan tables = (k : ℕ) → k < length tables → (nth plan tables k).plan ≡ plan

-- each of them is a reading table
abbrev pub AreTables : List ReadingsView → Type 0
AreTables tables =
    (d : ReadingsView) (k : ℕ) → k < length tables → IsReadingTable (slice_index_or tables k d).plan (slice_index_or tables k d).table

-- tables that registers keep
pub record KeepsRegisters (plan : PlanView) (tables : List ReadingsView) : Type 0 where
  pub of_plan : AreOfPlan plan tables
  pub are : AreRegisters (view_of plan tables)

-- ---- a field

-- the numbers are those of the text, where it has so many
abbrev pub ReadsNumbers : ℕ → List ℕ → Option (ArrayVec ℕ) → Type 0
ReadsNumbers count text None = numbers_of count text ≡ None
ReadsNumbers count text (Some numbers) = (numbers_of count text ≡ Some numbers.items) × (length numbers.items ≡ count)

-- what is read of a field is what it says of each register
abbrev pub ReadsField : ℕ → Bool → List ℕ → Result (Option (ArrayVec ℕ)) FileCause → Type 0
ReadsField count member text (Ok None) = (k : ℕ) → register_of count k member text ≡ Ok None
ReadsField count member text (Ok (Some numbers)) =
    (length numbers.items ≡ count) × (member ≡ true) × ((k : ℕ) → k < count → slice_index numbers.items k < 2 ^ 40)
    × ((k : ℕ) → register_of count k member text ≡ Ok (Some (slice_index numbers.items k)))
ReadsField count member text (Err what) = (k : ℕ) → register_of count k member text ≡ Err what

-- readings of a member alone, one for each of so many registers; or none
abbrev pub AreReadings : ℕ → Bool → Option (ArrayVec ℕ) → Type 0
AreReadings count member None = Unit {0}
AreReadings count member (Some numbers) = (length numbers.items ≡ count) × (member ≡ true) × ((k : ℕ) → k < count → slice_index numbers.items k < 2 ^ 40)

-- the reading of register k among those that were read
abbrev pub of_register : Option (ArrayVec ℕ) → ℕ → Option ℕ
of_register None k = None
of_register (Some numbers) k = Some (slice_index numbers.items k)

-- ---- tables

-- each of the first n tables has its register's reading at a place, and nothing else changes
pub record PutsFirst (plan : PlanView) (n : ℕ) (old : List ReadingsView) (g r i : ℕ) (values : Option (ArrayVec ℕ)) (new : List ReadingsView) : Type 0 where
  pub long : length new ≡ length old
  pub here : (k : ℕ) → k < n → PutsReading (nth plan old k) g r i (of_register values k) (nth plan new k)
  pub others : (k : ℕ) → n ≤ k → nth plan new k ≡ nth plan old k

-- each table has its register's reading at a place, and nothing else changes
abbrev pub PutsEach : PlanView → List ReadingsView → (g r i : ℕ) → Option (ArrayVec ℕ) → List ReadingsView → Type 0
PutsEach plan old g r i values new = PutsFirst plan (length old) old g r i values new

-- the first n meters of group g have in round r the readings of the row, in each table those of its register, and no other place is changed
pub record FillsTables (plan : PlanView) (g r : ℕ) (fields : List (List ℕ)) (n : ℕ) (old new : List ReadingsView) : Type 0 where
  pub long : length new ≡ length old
  pub of_plan : AreOfPlan plan new
  pub each : (k : ℕ) → k < length old → FillsRow (register_of (length old) k) plan g r fields n (nth plan old k).table (nth plan new k).table
