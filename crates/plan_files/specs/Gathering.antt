-- What the rows after the groups add up to: keys, lanes and members, up to the first row that the plan refuses.
use Rattle.std.specs.Prelude.{◌≡◌, ℕ, ◌+◌, ◌==◌, ◌&&◌, not, nat_le, if◌then◌else◌, List, [], ◌∷◌, ◌++◌, Option, Some, None, is_some, Result, Ok, Err}
use Rattle.group_plan.specs.Plans.{PlanView}
use Rattle.group_plan.specs.Spans.{span_fault, with_spans}
use Rattle.group_plan.specs.declared.plan.members.Span.{Span}
use Rattle.group_plan.specs.declared.plan.members.SpanError.{SpanError}
use Rattle.group_plan.specs.declared.plan.members.SpanError.TheVariants as of_span
use Rattle.link_lanes.specs.declared.row.LaneRow.{LaneRow}
use Rattle.pair_keys.specs.Ids.{is_key}
use Rattle.pair_keys.specs.Keys.{Keys, keys_of, no_keys, with_key}
use Rattle.pair_keys.specs.declared.KeyError.TheVariants as of_key
use Rattle.pair_keys.specs.declared.KeyId.{KeyId}
use Rattle.pair_keys.specs.declared.KeyId.TheVariants as id
use Rattle.plan_files.specs.Faults.{◌>>=◌, Fails, at_row}
use Rattle.plan_files.specs.declared.entry.PlanRow.{PlanRow}
use Rattle.plan_files.specs.declared.entry.PlanRow.TheVariants as entry
use Rattle.plan_files.specs.declared.fault.Failed.{Failed}
use Rattle.plan_files.specs.declared.fault.FileCause.{FileCause}
use Rattle.plan_files.specs.declared.fault.FileCause.TheVariants as cause
use Rattle.plan_files.specs.declared.fault.FileFault.{FileFault}
use Rattle.plan_files.specs.declared.gathering.Gathering.{Gathering}

-- ---- members

-- the spans of the member rows, in the order of the file
abbrev pub spans_of : List PlanRow → List Span
spans_of [] = []
spans_of (entry.Member span ∷ entries) = span ∷ spans_of entries
spans_of (other ∷ entries) = spans_of entries

-- the plan with the spans, where they have no fault
abbrev pub settled_by : PlanView → List Span → Option SpanError → PlanView
settled_by plan spans None = with_spans plan spans
settled_by plan spans (Some fault) = plan

abbrev pub settled : PlanView → List Span → PlanView
settled plan spans = settled_by plan spans (span_fault plan spans)

-- the plan is settled, and the fault of its spans known
pub record Settles (old : PlanView) (spans : List Span) (new : PlanView) (fault : Option SpanError) : Type 0 where
  pub plan : new ≡ settled old spans
  pub faulty : fault ≡ span_fault old spans

-- a member row with some others before it is refused where the fault of all spans is at its place
abbrev pub member_fault : Option SpanError → ℕ → Result (Unit {0}) FileCause
member_fault (Some (of_span.Range at)) place = if at == place then Err (cause.Member (of_span.Range at)) else Ok tt
member_fault (Some (of_span.Twice at)) place = if at == place then Err (cause.Member (of_span.Twice at)) else Ok tt
member_fault (Some of_span.Memory) place = Ok tt
member_fault None place = Ok tt

-- ---- rows in turn

-- the keys and lanes of some rows, and how many of them were member rows
pub record Gathered : Type 0 where
  pub keys : Keys
  pub lanes : List LaneRow
  pub members : ℕ

-- no row yet
abbrev pub nothing : PlanView → Gathered
nothing plan = record { keys = no_keys plan; lanes = []; members = 0 }

-- one key more, where the plan has it and it isn't there yet
unfoldable pub put_key : Keys → KeyId → List ℕ → Result Keys FileCause
put_key keys which key =
    if not (is_key keys.plan which) then Err (cause.Key of_key.Range) else
    if is_some (keys.key which) then Err (cause.Key (of_key.Twice which)) else
    Ok (with_key keys which key)

-- one lane more, where its span is one and ends by the last tick
unfoldable pub hang_lane : ℕ → List LaneRow → LaneRow → Result (List LaneRow) FileCause
hang_lane last lanes lane = if nat_le lane.from lane.to && nat_le lane.to last then Ok (lanes ++ lane ∷ []) else Err cause.LaneSpan

-- one row more, by the plan's last tick and the fault of all spans
unfoldable pub take_entry : ℕ → Option SpanError → Gathered → PlanRow → Result Gathered FileCause
take_entry last fault before (entry.Own group meter key) = do
  keys ← put_key before.keys (id.Own group meter) key
  Ok (record before { keys = keys })
take_entry last fault before (entry.Pair group low high key) = do
  keys ← put_key before.keys (id.Pair group low high) key
  Ok (record before { keys = keys })
take_entry last fault before (entry.Lane lane) = do
  lanes ← hang_lane last before.lanes lane
  Ok (record before { lanes = lanes })
take_entry last fault before (entry.Member span) = do
  _ ← member_fault fault before.members
  Ok (record before { members = before.members + 1 })

-- all these rows more, of which the first is row n of the file, up to the first that is refused
unfoldable pub gather : ℕ → Option SpanError → ℕ → Gathered → List PlanRow → Result Gathered FileFault
gather last fault n before [] = Ok before
gather last fault n before (entry ∷ entries) = do
  more ← at_row n (take_entry last fault before entry)
  gather last fault (n + 1) more entries

-- ---- how the steps end

-- what is gathered
abbrev pub gathered_by : Gathering → Gathered
gathered_by g = record { keys = keys_of g.keys; lanes = g.lanes.items; members = g.members }

-- a key is put, or refused
abbrev pub PutsKey : Keys → KeyId → List ℕ → Result (Unit {0}) FileCause → Keys → Type 0
PutsKey keys which key (Ok done) new = put_key keys which key ≡ Ok new
PutsKey keys which key (Err what) new = put_key keys which key ≡ Err what

-- a lane is hung, or refused; want of memory is free
abbrev pub HangsLane : List LaneRow → LaneRow → ℕ → Result (Unit {0}) (Failed FileCause) → List LaneRow → Type 0
HangsLane lanes lane last (Ok done) new = hang_lane last lanes lane ≡ Ok new
HangsLane lanes lane last (Err failed) new = Fails (hang_lane last lanes lane) failed

-- a row is taken, or refused; want of memory is free
abbrev pub TakesEntry : ℕ → Option SpanError → Gathered → PlanRow → Result (Unit {0}) (Failed FileCause) → Gathered → Type 0
TakesEntry last fault before entry (Ok done) after = take_entry last fault before entry ≡ Ok after
TakesEntry last fault before entry (Err failed) after = Fails (take_entry last fault before entry) failed
