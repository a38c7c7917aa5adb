-- What a meter file says: its form first, then the plan of the meter's group, then the rows of its keys and members, up to the first fault.
use Rattle.std.specs.Prelude.{◌≡◌, ℕ, ◌+◌, ◌==◌, ◌&&◌, not, nat_lt, if◌then◌else◌, Bool, List, [], ◌∷◌, replicate, slice_index_or, slice_set, find, Option, Some, None, is_some, is_none, Result, Ok, Err}
use Rattle.std.specs.List.{range_with_len}
use Rattle.std.specs.Option.{option_map}
use Rattle.group_plan.specs.Plans.{PlanView, size}
use Rattle.group_plan.specs.Spans.{span_fault}
use Rattle.group_plan.specs.declared.plan.PlanError.TheVariants as of_plan
use Rattle.group_plan.specs.declared.plan.members.Span.{Span}
use Rattle.group_plan.specs.declared.plan.members.SpanError.{SpanError}
use Rattle.pair_keys.specs.declared.KeyError.TheVariants as of_key
use Rattle.pair_keys.specs.declared.KeyId.{KeyId}
use Rattle.pair_keys.specs.declared.KeyId.TheVariants as id
use Rattle.plan_files.specs.Faults.{◌>>=◌, Fails, at_row, in_row}
use Rattle.plan_files.specs.Gathering.{member_fault, settled}
use Rattle.plan_files.specs.PlanFiles.{stated_plan}
use Rattle.plan_files.specs.Rows.{file_rows}
use Rattle.plan_files.specs.declared.fault.Failed.{Failed}
use Rattle.plan_files.specs.declared.fault.FileCause.{FileCause}
use Rattle.plan_files.specs.declared.fault.FileCause.TheVariants as cause
use Rattle.plan_files.specs.declared.fault.FileFault.{FileFault}
use Rattle.meter_files.specs.PartRows.{PartHead, behind, entries_from, head_of}
use Rattle.meter_files.specs.Spelling.{pair_of}
use Rattle.meter_files.specs.declared.part_file.MeterFile.{MeterFile}
use Rattle.meter_files.specs.declared.part_file.Owner.{Owner}
use Rattle.meter_files.specs.declared.part_file.PartKeys.{PartKeys}
use Rattle.meter_files.specs.declared.part_row.HomeGroup.{HomeGroup}
use Rattle.meter_files.specs.declared.part_row.PartEntry.{PartEntry}
use Rattle.meter_files.specs.declared.part_row.PartEntry.TheVariants.{Own, Pair, Member}

-- what a meter file says: the plan of the meter's group alone, the number by which frames name the group, the meter, its own key, and those of its pairs
-- by the other meter
pub record MeterFileView : Type 0 where
  pub home : PlanView
  pub group : ℕ
  pub meter : ℕ
  pub own : List ℕ
  pub pairs : List (Option (List ℕ))

-- ---- the plan

-- the plan of the group alone, with the least windows, which mean nothing; a group's number is below 256
unfoldable pub stated_home : ℕ → HomeGroup → Result PlanView FileFault
stated_home rounds home =
    if nat_lt 255 home.number then Err (in_row 0 (cause.Plan (of_plan.TooManyGroups (home.number + 1))))
    else stated_plan (record { rounds = rounds; windows = record { reading = 1; recovery = 2 } }) (home.group ∷ [])

-- ---- the keys

-- the meter, and how many its group has
pub record OwnerView : Type 0 where
  pub group : ℕ
  pub meter : ℕ
  pub meters : ℕ

-- the keys of some rows, and how many of them were member rows
pub record Gathered : Type 0 where
  pub own : Option (List ℕ)
  pub pairs : List (Option (List ℕ))
  pub members : ℕ

-- no row yet
abbrev pub nothing : ℕ → Gathered
nothing meters = record { own = None; pairs = replicate meters None; members = 0 }

-- the meter's own key, which isn't there yet
abbrev pub put_own : OwnerView → Gathered → List ℕ → Result Gathered FileCause
put_own owner before key = if is_some before.own then Err (cause.Key (of_key.Twice (id.Own owner.group owner.meter))) else Ok (record before { own = Some key })

-- another meter of the group
abbrev pub is_other : OwnerView → ℕ → Bool
is_other owner j = not (j == owner.meter) && nat_lt j owner.meters

-- the key of the pair with another meter, which isn't there yet
abbrev pub put_pair : OwnerView → Gathered → ℕ → List ℕ → Result Gathered FileCause
put_pair owner before j key =
    if not (is_other owner j) then Err (cause.Key of_key.Range) else
    if is_some (slice_index_or before.pairs j None) then Err (cause.Key (of_key.Twice (pair_of owner.group owner.meter j))) else
    Ok (record before { pairs = slice_set before.pairs j (Some key) })

-- a member row, by the fault of all spans
abbrev pub put_member : Option SpanError → Gathered → Result Gathered FileCause
put_member fault before = do
  _ ← member_fault fault before.members
  Ok (record before { members = before.members + 1 })

-- one row more
unfoldable pub take_entry : OwnerView → Option SpanError → Gathered → PartEntry → Result Gathered FileCause
take_entry owner fault before (Own key) = put_own owner before key
take_entry owner fault before (Pair j key) = put_pair owner before j key
take_entry owner fault before (Member span) = put_member fault before

-- all these rows more, of which the first is row n of the file, up to the first that is refused
unfoldable pub gather : OwnerView → Option SpanError → ℕ → Gathered → List PartEntry → Result Gathered FileFault
gather owner fault n before [] = Ok before
gather owner fault n before (entry ∷ entries) = do
  more ← at_row n (take_entry owner fault before entry)
  gather owner fault (n + 1) more entries

-- the key of the pair with meter j is lacking
abbrev pub lacks : OwnerView → List (Option (List ℕ)) → ℕ → Bool
lacks owner pairs j = not (j == owner.meter) && is_none (slice_index_or pairs j None)

-- the first pair whose key is missing
abbrev pub missing_pair : OwnerView → List (Option (List ℕ)) → Option KeyId
missing_pair owner pairs = option_map (pair_of owner.group owner.meter) (find (lacks owner pairs) (range_with_len 0 owner.meters))

-- ---- the file

abbrev pub spans_of : List PartEntry → List Span
spans_of [] = []
spans_of (Member span ∷ entries) = span ∷ spans_of entries
spans_of (Own key ∷ entries) = spans_of entries
spans_of (Pair j key ∷ entries) = spans_of entries

abbrev pub unless_missing : PlanView → OwnerView → List ℕ → List (Option (List ℕ)) → Option KeyId → Result MeterFileView FileFault
unless_missing home owner own pairs (Some which) = Err (in_row 0 (cause.Key (of_key.Missing which)))
unless_missing home owner own pairs None = Ok (record { home = home; group = owner.group; meter = owner.meter; own = own; pairs = pairs })

-- the file of what is gathered, unless a key is missing
abbrev pub completed_by : PlanView → OwnerView → Option (List ℕ) → List (Option (List ℕ)) → Result MeterFileView FileFault
completed_by home owner None pairs = Err (in_row 0 (cause.Key (of_key.Missing (id.Own owner.group owner.meter))))
completed_by home owner (Some own) pairs = unless_missing home owner own pairs (missing_pair owner pairs)

abbrev pub completed : PlanView → OwnerView → Gathered → Result MeterFileView FileFault
completed home owner gathered = completed_by home owner gathered.own gathered.pairs

-- the meter of these first rows in a group of so many
abbrev pub owner_of : PartHead → ℕ → OwnerView
owner_of head meters = record { group = head.home.number; meter = head.meter; meters = meters }

-- what the rows after the first four say to a plan whose spans have this fault or none
abbrev pub filled_in : PlanView → OwnerView → Option SpanError → List PartEntry → Result MeterFileView FileFault
filled_in home owner fault entries = gather owner fault 5 (nothing owner.meters) entries >>= completed home owner

-- the same to a plan before its members' spans are known; the meter is one of its group
unfoldable pub with_entries : PlanView → OwnerView → List PartEntry → Result MeterFileView FileFault
with_entries home owner entries =
    if nat_lt owner.meter owner.meters then filled_in (settled home (spans_of entries)) owner (span_fault home (spans_of entries)) entries
    else Err (in_row 4 (cause.Key of_key.Range))

-- what the rows of a file say: first the form of all, then the plan, then the meter, then the rows after the first four
unfoldable pub part_from : List (List (List ℕ)) → Result MeterFileView FileFault
part_from rows = do
  head ← head_of rows
  entries ← entries_from 5 (behind (behind (behind (behind rows))))
  home ← stated_home head.rounds head.home
  with_entries home (owner_of head (size home.groups 0)) entries

-- what the bytes of a meter file say, or their first fault
unfoldable pub part_of : List ℕ → Result MeterFileView FileFault
part_of bytes = part_from (file_rows bytes)

-- ---- how the steps end

-- what is gathered
abbrev pub gathered_by : PartKeys → Gathered
gathered_by keys = record { own = keys.own; pairs = keys.pairs.items; members = keys.members }

-- a step is taken, or refused
abbrev pub TakesKey : Result Gathered FileCause → Result (Unit {0}) FileCause → Gathered → Type 0
TakesKey value (Ok done) after = value ≡ Ok after
TakesKey value (Err what) after = value ≡ Err what

abbrev pub owner_view : Owner → OwnerView
owner_view owner = record { group = owner.group; meter = owner.meter; meters = owner.meters }

-- a file as contracts see it
abbrev pub view_of : MeterFile → MeterFileView
view_of file = record { home = file.home; group = file.group; meter = file.meter; own = file.own; pairs = file.pairs.items }

-- how the reading of a meter file ends; want of memory is free
abbrev pub PartEnds : Result MeterFileView FileFault → Result MeterFile (Failed FileFault) → Type 0
PartEnds value (Ok file) = value ≡ Ok (view_of file)
PartEnds value (Err failed) = Fails value failed
