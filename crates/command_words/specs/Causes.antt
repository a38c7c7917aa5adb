-- How complaints name the causes of refusals.
use Rattle.std.specs.Prelude.{ℕ, List, ◌++◌, codes}
use Rattle.std.specs.Fmt.{decimal}
use Rattle.group_plan.specs.declared.plan.PlanError.{PlanError}
use Rattle.group_plan.specs.declared.plan.PlanError.TheVariants as of_plan
use Rattle.group_plan.specs.declared.plan.members.SpanError.{SpanError}
use Rattle.group_plan.specs.declared.plan.members.SpanError.TheVariants as of_span
use Rattle.pair_keys.specs.declared.KeyId.{KeyId}
use Rattle.pair_keys.specs.declared.KeyId.TheVariants.{Own, Pair}
use Rattle.pair_keys.specs.declared.KeyError.{KeyError}
use Rattle.pair_keys.specs.declared.KeyError.TheVariants as of_key
use Rattle.link_lanes.specs.declared.cupboard.RackCause.{RackCause}
use Rattle.link_lanes.specs.declared.cupboard.RackCause.TheVariants as of_rack
use Rattle.plan_files.specs.declared.fault.FileCause.{FileCause}
use Rattle.plan_files.specs.declared.fault.FileCause.TheVariants as cause
use Rattle.transcript_text.specs.declared.fault.ReadError.{ReadError}
use Rattle.transcript_text.specs.declared.fault.ReadError.TheVariants as of_read

-- a key: `own G I`, or `pair G I J`
unfoldable pub key_text : KeyId → List ℕ
key_text (Own group meter) = codes "own " ++ (decimal group ++ (codes " " ++ decimal meter))
key_text (Pair group low high) = codes "pair " ++ (decimal group ++ (codes " " ++ (decimal low ++ (codes " " ++ decimal high))))

-- a refused plan, without its numbers
abbrev pub plan_error_name : PlanError → List ℕ
plan_error_name of_plan.NoGroup = codes "NoGroup"
plan_error_name (of_plan.TooManyGroups count) = codes "TooManyGroups"
plan_error_name (of_plan.SameName first second) = codes "SameName"
plan_error_name (of_plan.Meters group) = codes "Meters"
plan_error_name (of_plan.Floor group) = codes "Floor"
plan_error_name of_plan.Rounds = codes "Rounds"
plan_error_name of_plan.Window = codes "Window"
plan_error_name (of_plan.TooManyReadings count) = codes "TooManyReadings"
plan_error_name of_plan.Memory = codes "Memory"
plan_error_name (of_plan.TooManyPairs count) = codes "TooManyPairs"

-- a refused span of rounds, without its place
abbrev pub span_error_name : SpanError → List ℕ
span_error_name (of_span.Range at) = codes "Range"
span_error_name (of_span.Twice at) = codes "Twice"
span_error_name of_span.Memory = codes "Memory"

-- a refused key, with the key
unfoldable pub key_error_text : KeyError → List ℕ
key_error_text of_key.Range = codes "Range"
key_error_text (of_key.Twice key) = codes "Twice " ++ key_text key
key_error_text (of_key.Missing key) = codes "Missing " ++ key_text key

-- what is wrong with a row of a file, or with the file as a whole
unfoldable pub cause_text : FileCause → List ℕ
cause_text cause.Row = codes "Row"
cause_text cause.Fields = codes "Fields"
cause_text cause.Number = codes "Number"
cause_text cause.Name = codes "Name"
cause_text cause.Hex = codes "Hex"
cause_text (cause.Plan error) = codes "Plan " ++ plan_error_name error
cause_text (cause.Key error) = codes "Key " ++ key_error_text error
cause_text cause.LaneSpan = codes "LaneSpan"
cause_text cause.Range = codes "Range"
cause_text cause.Short = codes "Short"
cause_text cause.Extra = codes "Extra"
cause_text (cause.Member error) = codes "Member " ++ span_error_name error
cause_text cause.NotMember = codes "NotMember"

-- why a lane row is refused
abbrev pub rack_cause_name : RackCause → List ℕ
rack_cause_name of_rack.NoSuchLane = codes "NoSuchLane"
rack_cause_name of_rack.BadArgument = codes "BadArgument"
rack_cause_name of_rack.Memory = codes "Memory"

-- what is wrong with a line of a transcript, with the field where one is at fault
unfoldable pub read_error_name : ReadError → List ℕ
read_error_name (of_read.Head line) = codes "Head"
read_error_name (of_read.Line line) = codes "Line"
read_error_name (of_read.Field line field) = codes "Field " ++ decimal field
read_error_name (of_read.NoEnd line) = codes "NoEnd"
read_error_name (of_read.Count line) = codes "Count"
read_error_name (of_read.After line) = codes "After"
read_error_name of_read.Memory = codes "Memory"
