-- The rows of a plan file: what each says, or what is wrong with its form.
use Rattle.std.specs.Cmp.Lexicographic.{pointwise}
use Rattle.std.specs.Prelude.{ℕ, ◌^◌, ◌==◌, if◌then◌else◌, Bool, List, [], ◌∷◌, codes, length, bytes_eq, slice_index_or, Option, Some, None, Result, Ok, Err}
use Rattle.std.specs.List.{list_all}
use Rattle.std.specs.Result.{result_ok}
use Rattle.field_texts.specs.Numbers.{number_of, within}
use Rattle.group_plan.specs.Names.{is_name}
use Rattle.group_plan.specs.declared.plan.GroupPlan.{GroupPlan}
use Rattle.hex.specs.Hex.{decode_sized}
use Rattle.link_lanes.specs.ArgBytes.{is_arg_byte}
use Rattle.plan_files.specs.Faults.{◌>>=◌}
use Rattle.plan_files.specs.declared.entry.PlanRow.{PlanRow}
use Rattle.plan_files.specs.declared.entry.PlanRow.TheVariants as entry
use Rattle.plan_files.specs.declared.fault.FileCause.{FileCause}
use Rattle.plan_files.specs.declared.fault.FileCause.TheVariants as cause
use Rattle.plan_files.specs.declared.form.PlanForm.{PlanForm}
use Rattle.plan_files.specs.declared.form.PlanForm.TheVariants.{Whole, Public}
use Rattle.plan_files.specs.declared.head.Windows.{Windows}

-- ---- fields

-- the field at a place, counted from 0; empty where there is none
abbrev pub text : List (List ℕ) → ℕ → List ℕ
text fields place = slice_index_or fields place []

-- whether the first field is this word
abbrev pub starts_with : List ℕ → List (List ℕ) → Bool
starts_with word fields = bytes_eq (text fields 0) word

-- the value, or this cause where there is none
abbrev pub or_cause : {A : Type 0} → FileCause → Option A → Result A FileCause
or_cause what None = Err what
or_cause what (Some value) = Ok value

-- whether there are this many fields
unfoldable pub has_fields : ℕ → List (List ℕ) → Result (Unit {0}) FileCause
has_fields count fields = if length fields == count then Ok tt else Err cause.Fields

-- a number below 2^32
unfoldable pub number_in : List (List ℕ) → ℕ → Result ℕ FileCause
number_in fields place = or_cause cause.Number (within 0 (2 ^ 32) (number_of (text fields place)))

-- a key of 64 hexadecimal digits of either case
unfoldable pub key_in : List (List ℕ) → ℕ → Result (List ℕ) FileCause
key_in fields place = or_cause cause.Hex (result_ok (decode_sized (text fields place) 32))

-- a name of 1 to 16 letters, digits, `_` or `-`
unfoldable pub name_in : List (List ℕ) → ℕ → Result (List ℕ) FileCause
name_in fields place = if is_name (text fields place) then Ok (text fields place) else Err cause.Name

-- a lane's argument of bytes 0x21 to 0x7e, empty or not
unfoldable pub arg_in : List (List ℕ) → ℕ → Result (List ℕ) FileCause
arg_in fields place = if list_all is_arg_byte (text fields place) then Ok (text fields place) else Err cause.Name

-- ---- the first rows

-- the word with which a file of the form starts
abbrev pub title : PlanForm → List ℕ
title Whole = codes "plan"
title Public = codes "public"

-- row 1: the form's title, `1`, and nothing else
unfoldable pub version_row : PlanForm → List (List ℕ) → Result (Unit {0}) FileCause
version_row form fields = if pointwise bytes_eq fields (title form ∷ codes "1" ∷ []) then Ok tt else Err cause.Row

-- row 2: `rounds`, a number
unfoldable pub rounds_row : List (List ℕ) → Result ℕ FileCause
rounds_row fields =
    if starts_with (codes "rounds") fields then (do
      _ ← has_fields 2 fields
      number_in fields 1)
    else Err cause.Row

-- row 3: `windows`, two numbers of ticks
unfoldable pub windows_row : List (List ℕ) → Result Windows FileCause
windows_row fields =
    if starts_with (codes "windows") fields then (do
      _ ← has_fields 3 fields
      reading ← number_in fields 1
      recovery ← number_in fields 2
      Ok (record { reading = reading; recovery = recovery }))
    else Err cause.Row

-- a group's row, behind the word `group`: its name, how many meters it has, its floor
unfoldable pub group_row : List (List ℕ) → Result GroupPlan FileCause
group_row fields = do
  _ ← has_fields 4 fields
  name ← name_in fields 1
  meters ← number_in fields 2
  floor ← number_in fields 3
  Ok (record { name = name; meters = meters; floor = floor })

-- ---- the rows after the groups

-- behind `own`: a group, a meter, its own key
unfoldable pub own_row : List (List ℕ) → Result PlanRow FileCause
own_row fields = do
  _ ← has_fields 4 fields
  group ← number_in fields 1
  meter ← number_in fields 2
  key ← key_in fields 3
  Ok (entry.Own group meter key)

-- behind `pair`: a group, two meters, their key
unfoldable pub pair_row : List (List ℕ) → Result PlanRow FileCause
pair_row fields = do
  _ ← has_fields 5 fields
  group ← number_in fields 1
  low ← number_in fields 2
  high ← number_in fields 3
  key ← key_in fields 4
  Ok (entry.Pair group low high key)

-- behind `lane`: a lane's name, its argument, the ticks from which and to which it hangs; the row's number is kept
unfoldable pub lane_row : ℕ → List (List ℕ) → Result PlanRow FileCause
lane_row number fields = do
  _ ← has_fields 5 fields
  name ← name_in fields 1
  arg ← arg_in fields 2
  from ← number_in fields 3
  to ← number_in fields 4
  Ok (entry.Lane (record { row = number; name = name; arg = arg; from = from; to = to }))

-- behind `member`: a group, a meter, the rounds from which and until which it is a member
unfoldable pub member_row : List (List ℕ) → Result PlanRow FileCause
member_row fields = do
  _ ← has_fields 5 fields
  group ← number_in fields 1
  meter ← number_in fields 2
  from ← number_in fields 3
  until ← number_in fields 4
  Ok (entry.Member (record { group = group; meter = meter; from = from; until = until }))

-- a row of a key or a lane, by its first word
unfoldable pub key_or_lane : ℕ → List (List ℕ) → Result PlanRow FileCause
key_or_lane number fields =
    if starts_with (codes "own") fields then own_row fields else
    if starts_with (codes "pair") fields then pair_row fields else
    if starts_with (codes "lane") fields then lane_row number fields else
    Err cause.Row

-- a row that isn't a member's: a public plan has none after its groups
abbrev pub other_row : PlanForm → ℕ → List (List ℕ) → Result PlanRow FileCause
other_row Whole number fields = key_or_lane number fields
other_row Public number fields = Err cause.Row

-- a row after the groups
unfoldable pub entry_of : PlanForm → ℕ → List (List ℕ) → Result PlanRow FileCause
entry_of form number fields = if starts_with (codes "member") fields then member_row fields else other_row form number fields
