-- The form of a plan's file: its first rows, its group rows, and the rows after them, up to the first fault.
use Rattle.std.specs.Prelude.{ℕ, ◌+◌, ◌++◌, nat_lt, if◌then◌else◌, List, [], ◌∷◌, codes, length, slice_index_or, Result, Ok, Err}
use Rattle.group_plan.specs.declared.plan.GroupPlan.{GroupPlan}
use Rattle.plan_files.specs.Faults.{◌>>=◌, at_row, in_row}
use Rattle.plan_files.specs.PlanRows.{entry_of, group_row, rounds_row, starts_with, version_row, windows_row}
use Rattle.plan_files.specs.declared.entry.PlanRow.{PlanRow}
use Rattle.plan_files.specs.declared.fault.FileCause.{FileCause}
use Rattle.plan_files.specs.declared.fault.FileCause.TheVariants as cause
use Rattle.plan_files.specs.declared.fault.FileFault.{FileFault}
use Rattle.plan_files.specs.declared.form.PlanForm.{PlanForm}
use Rattle.plan_files.specs.declared.head.PlanHead.{PlanHead}

-- what the row at a place, counted from 0, says by its form; a file without it is short
unfoldable pub row_due : {A : Type 0} → (List (List ℕ) → Result A FileCause) → List (List (List ℕ)) → ℕ → Result A FileFault
row_due form rows place =
    if nat_lt place (length rows) then at_row (place + 1) (form (slice_index_or rows place [])) else Err (in_row (place + 1) cause.Short)

-- what the first of these rows, row n of the file, says by its form; a file without it is short
abbrev pub first_due : {A : Type 0} → (List (List ℕ) → Result A FileCause) → ℕ → List (List (List ℕ)) → Result A FileFault
first_due form n [] = Err (in_row n cause.Short)
first_due form n (row ∷ rows) = at_row n (form row)

-- what the first three rows say
unfoldable pub head_of : PlanForm → List (List (List ℕ)) → Result PlanHead FileFault
head_of form rows = do
  _ ← row_due (version_row form) rows 0
  rounds ← row_due rounds_row rows 1
  windows ← row_due windows_row rows 2
  Ok (record { rounds = rounds; windows = windows })

-- the group rows with which these rows start, of which the first is row n of the file
unfoldable pub groups_from : ℕ → List (List (List ℕ)) → Result (List GroupPlan) FileFault
groups_from n [] = Ok []
groups_from n (row ∷ rows) =
    if starts_with (codes "group") row then (do
      group ← at_row n (group_row row)
      groups ← groups_from (n + 1) rows
      Ok (group ∷ groups))
    else Ok []

-- the rows after the groups, of which the first is row n of the file
unfoldable pub entries_from : PlanForm → ℕ → List (List (List ℕ)) → Result (List PlanRow) FileFault
entries_from form n [] = Ok []
entries_from form n (row ∷ rows) = do
  entry ← at_row n (entry_of form n row)
  entries ← entries_from form (n + 1) rows
  Ok (entry ∷ entries)

-- some values before those that the rest says
abbrev pub after : {A : Type 0} → List A → Result (List A) FileFault → Result (List A) FileFault
after xs (Ok more) = Ok (xs ++ more)
after xs (Err fault) = Err fault
