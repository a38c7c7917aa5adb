-- The rows of a meter file: what each says, or what is wrong with its form.
use Rattle.std.specs.Cmp.Lexicographic.{pointwise}
use Rattle.std.specs.Prelude.{ℕ, ◌+◌, if◌then◌else◌, bytes_eq, List, [], ◌∷◌, codes, drop, Result, Ok, Err}
use Rattle.plan_files.specs.Faults.{◌>>=◌, at_row}
use Rattle.plan_files.specs.PlanForms.{first_due}
use Rattle.plan_files.specs.PlanRows.{has_fields, key_in, name_in, number_in, rounds_row, starts_with}
use Rattle.plan_files.specs.declared.fault.FileCause.{FileCause}
use Rattle.plan_files.specs.declared.fault.FileCause.TheVariants as cause
use Rattle.plan_files.specs.declared.fault.FileFault.{FileFault}
use Rattle.meter_files.specs.Spelling.{title_row}
use Rattle.meter_files.specs.declared.part_row.HomeGroup.{HomeGroup}
use Rattle.meter_files.specs.declared.part_row.PartEntry.{PartEntry}
use Rattle.meter_files.specs.declared.part_row.PartEntry.TheVariants.{Own, Pair, Member}

-- row 1: `meter`, `1`, and nothing else
unfoldable pub title_in : List (List ℕ) → Result (Unit {0}) FileCause
title_in fields = if pointwise bytes_eq fields title_row then Ok tt else Err cause.Row

-- row 3: `group`, its number, its name, how many meters it has, its floor
unfoldable pub home_in : List (List ℕ) → Result HomeGroup FileCause
home_in fields =
    if starts_with (codes "group") fields then (do
      _ ← has_fields 5 fields
      number ← number_in fields 1
      name ← name_in fields 2
      meters ← number_in fields 3
      floor ← number_in fields 4
      Ok (record { number = number; group = record { name = name; meters = meters; floor = floor } }))
    else Err cause.Row

-- row 4: `self`, the meter
unfoldable pub self_in : List (List ℕ) → Result ℕ FileCause
self_in fields =
    if starts_with (codes "self") fields then (do
      _ ← has_fields 2 fields
      number_in fields 1)
    else Err cause.Row

-- behind `own`: the meter's own key
unfoldable pub own_in : List (List ℕ) → Result PartEntry FileCause
own_in fields = do
  _ ← has_fields 2 fields
  key ← key_in fields 1
  Ok (Own key)

-- behind `pair`: another meter, and the key of the two
unfoldable pub pair_in : List (List ℕ) → Result PartEntry FileCause
pair_in fields = do
  _ ← has_fields 3 fields
  other ← number_in fields 1
  key ← key_in fields 2
  Ok (Pair other key)

-- behind `member`: a meter, the rounds from which and until which it is a member
unfoldable pub member_in : List (List ℕ) → Result PartEntry FileCause
member_in fields = do
  _ ← has_fields 4 fields
  meter ← number_in fields 1
  from ← number_in fields 2
  until ← number_in fields 3
  Ok (Member (record { group = 0; meter = meter; from = from; until = until }))

-- a row after the first four
unfoldable pub entry_in : List (List ℕ) → Result PartEntry FileCause
entry_in fields =
    if starts_with (codes "own") fields then own_in fields else
    if starts_with (codes "pair") fields then pair_in fields else
    if starts_with (codes "member") fields then member_in fields else
    Err cause.Row

-- ---- the rows of a file

-- the rows behind the first
abbrev pub behind : List (List (List ℕ)) → List (List (List ℕ))
behind rows = drop 1 rows

-- what the first four rows say
pub record PartHead : Type 0 where
  pub rounds : ℕ
  pub home : HomeGroup
  pub meter : ℕ

unfoldable pub head_of : List (List (List ℕ)) → Result PartHead FileFault
head_of rows = do
  _ ← first_due title_in 1 rows
  rounds ← first_due rounds_row 2 (behind rows)
  home ← first_due home_in 3 (behind (behind rows))
  meter ← first_due self_in 4 (behind (behind (behind rows)))
  Ok (record { rounds = rounds; home = home; meter = meter })

-- the rows after the first four, of which the first is row n of the file
unfoldable pub entries_from : ℕ → List (List (List ℕ)) → Result (List PartEntry) FileFault
entries_from n [] = Ok []
entries_from n (row ∷ rows) = do
  entry ← at_row n (entry_in row)
  entries ← entries_from (n + 1) rows
  Ok (entry ∷ entries)
