-- The plan file, a plan with its keys and its lanes; and the public plan, which has neither.
use Rattle.std.specs.Prelude.{◌≡◌, ℕ, ◌+◌, List, length, drop, Option, Some, None, Result, Ok, Err, option_map}
use Rattle.group_plan.specs.NewPlans.{first_fault}
use Rattle.group_plan.specs.NewPlans as new
use Rattle.group_plan.specs.Plans.{PlanView, last_tick}
use Rattle.group_plan.specs.Spans.{span_fault, with_spans}
use Rattle.group_plan.specs.declared.plan.GroupPlan.{GroupPlan}
use Rattle.group_plan.specs.declared.plan.members.Span.{Span}
use Rattle.group_plan.specs.declared.plan.members.SpanError.{SpanError}
use Rattle.group_plan.specs.declared.plan.members.SpanError.TheVariants as of_span
use Rattle.link_lanes.specs.declared.row.LaneRow.{LaneRow}
use Rattle.pair_keys.specs.Keys.{Keys, table_of}
use Rattle.pair_keys.specs.declared.KeyError.TheVariants as of_key
use Rattle.pair_keys.specs.declared.KeyId.{KeyId}
use Rattle.plan_files.specs.Faults.{◌>>=◌, Fails, in_row, unless}
use Rattle.plan_files.specs.Gathering.{Gathered, gather, nothing, settled, spans_of}
use Rattle.plan_files.specs.MissingKeys.{first_missing}
use Rattle.plan_files.specs.PlanForms.{entries_from, groups_from, head_of}
use Rattle.plan_files.specs.Rows.{file_rows}
use Rattle.plan_files.specs.declared.entry.PlanRow.{PlanRow}
use Rattle.plan_files.specs.declared.fault.Failed.{Failed}
use Rattle.plan_files.specs.declared.fault.FileCause.TheVariants as cause
use Rattle.plan_files.specs.declared.fault.FileFault.{FileFault}
use Rattle.plan_files.specs.declared.head.PlanHead.{PlanHead}
use Rattle.plan_files.specs.declared.form.PlanForm.{PlanForm}
use Rattle.plan_files.specs.declared.form.PlanForm.TheVariants.{Whole, Public}
use Rattle.plan_files.specs.declared.plan.Opening.{Opening}
use Rattle.plan_files.specs.declared.plan.PlanFile.{PlanFile}

-- what a plan file says: the plan with the spans of its members, all its keys, and the lane rows in the order of the file
pub record PlanFileView : Type 0 where
  pub plan : PlanView
  pub keys : Keys
  pub lanes : List LaneRow

-- the plan that the first rows and the groups state, or its first fault
unfoldable pub stated_plan : PlanHead → List GroupPlan → Result PlanView FileFault
stated_plan head groups =
    unless (option_map (λ e. in_row 0 (cause.Plan e)) (first_fault groups head.rounds head.windows.reading head.windows.recovery))
    (new.plan_of groups head.rounds head.windows.reading head.windows.recovery)

-- the file, unless a key is missing
abbrev pub unless_missing : Option KeyId → Gathered → Result PlanFileView FileFault
unless_missing (Some which) gathered = Err (in_row 0 (cause.Key (of_key.Missing which)))
unless_missing None gathered = Ok (record { plan = gathered.keys.plan; keys = gathered.keys; lanes = gathered.lanes })

abbrev pub completed : Gathered → Result PlanFileView FileFault
completed gathered = unless_missing (first_missing gathered.keys) gathered

-- what the rows after the groups say to a plan whose spans have this fault or none; the first of them is row n of the file
abbrev pub filled_in : PlanView → Option SpanError → ℕ → List PlanRow → Result PlanFileView FileFault
filled_in plan fault n entries = gather (last_tick plan) fault n (nothing plan) entries >>= completed

-- the same to a plan before its members' spans are known
unfoldable pub with_entries : PlanView → ℕ → List PlanRow → Result PlanFileView FileFault
with_entries plan n entries = filled_in (settled plan (spans_of entries)) (span_fault plan (spans_of entries)) n entries

-- the plan that the first rows and the groups of a file state, and the rows after these, of which the first is row `first` of the file
pub record Opened : Type 0 where
  pub plan : PlanView
  pub first : ℕ
  pub entries : List PlanRow

-- what the rows of a file say, before the rows after the groups are judged by the plan: first the form of all, then the plan
unfoldable pub opened_from : PlanForm → List (List (List ℕ)) → Result Opened FileFault
opened_from form rows = do
  head ← head_of form rows
  groups ← groups_from 4 (drop 3 rows)
  entries ← entries_from form (4 + length groups) (drop (3 + length groups) rows)
  plan ← stated_plan head groups
  Ok (record { plan = plan; first = 4 + length groups; entries = entries })

-- what the rows of a file say
unfoldable pub plan_from : List (List (List ℕ)) → Result PlanFileView FileFault
plan_from rows = do
  opened ← opened_from Whole rows
  with_entries opened.plan opened.first opened.entries

-- what the bytes of a plan file say, or their first fault
unfoldable pub plan_of : List ℕ → Result PlanFileView FileFault
plan_of bytes = plan_from (file_rows bytes)

-- ---- the public plan

-- the place of a faulty span among all
abbrev pub place_of : SpanError → ℕ
place_of (of_span.Range at) = at
place_of (of_span.Twice at) = at
place_of of_span.Memory = 0

-- the plan with its members' spans, or the row of their first fault; the first of them is in row n of the file
unfoldable pub with_members : PlanView → ℕ → List Span → Result PlanView FileFault
with_members plan n spans = unless (option_map (λ e. in_row (n + place_of e) (cause.Member e)) (span_fault plan spans)) (with_spans plan spans)

-- what the rows of a public plan say: after the groups there are members' alone
unfoldable pub public_from : List (List (List ℕ)) → Result PlanView FileFault
public_from rows = do
  opened ← opened_from Public rows
  with_members opened.plan opened.first (spans_of opened.entries)

-- what the bytes of a public plan say, or their first fault
unfoldable pub public_of : List ℕ → Result PlanView FileFault
public_of bytes = public_from (file_rows bytes)

-- ---- how the reading of a plan file ends

-- what is opened, as contracts see it
abbrev pub opened_by : Opening → Opened
opened_by o = record { plan = o.plan; first = o.first; entries = o.entries.items }

abbrev pub OpeningEnds : Result Opened FileFault → Result Opening (Failed FileFault) → Type 0
OpeningEnds value (Ok o) = value ≡ Ok (opened_by o)
OpeningEnds value (Err failed) = Fails value failed

-- a file as contracts see it
abbrev pub view_of : PlanFile → PlanFileView
view_of file = record { plan = file.plan; keys = table_of file.keys; lanes = file.lanes.items }

-- how the reading of a plan file ends; want of memory is free
abbrev pub PlanEnds : Result PlanFileView FileFault → Result PlanFile (Failed FileFault) → Type 0
PlanEnds value (Ok file) = value ≡ Ok (view_of file)
PlanEnds value (Err failed) = Fails value failed
