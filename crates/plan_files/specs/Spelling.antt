-- The texts of the plan file, of the public plan and of the readings file.
use Rattle.std.specs.Prelude.{ℕ, ◌==◌, ◌&&◌, not, Bool, List, [], ◌∷◌, ◌++◌, codes, decimal, filter, length, map, Option, Some, None}
use Rattle.std.specs.List.{flat_map, range_with_len}
use Rattle.group_plan.specs.Plans.{Group, PlanView, size, name_of, span_of}
use Rattle.group_plan.specs.Tables.{ReadingsView, Table, reading}
use Rattle.group_plan.specs.declared.plan.members.Span.{Span}
use Rattle.hex.specs.Hex.{encode_lower}
use Rattle.link_lanes.specs.declared.row.LaneRow.{LaneRow}
use Rattle.pair_keys.specs.Keys.{Keys}
use Rattle.pair_keys.specs.declared.KeyId.{KeyId}
use Rattle.pair_keys.specs.declared.KeyId.TheVariants.{Own, Pair}
use Rattle.plan_files.specs.MissingKeys.{plan_keys}
use Rattle.plan_files.specs.PlainRows.{file_text}
use Rattle.plan_files.specs.PlanFiles.{PlanFileView}
use Rattle.plan_files.specs.PlanRows.{title}
use Rattle.plan_files.specs.declared.form.PlanForm.{PlanForm}
use Rattle.plan_files.specs.declared.form.PlanForm.TheVariants.{Whole, Public}

-- ---- the plan file

-- the version, the rounds and the windows
abbrev pub first_rows : PlanForm → PlanView → List (List (List ℕ))
first_rows form plan =
    (title form ∷ codes "1" ∷ []) ∷ (codes "rounds" ∷ decimal plan.rounds ∷ []) ∷ (codes "windows" ∷ decimal plan.w1 ∷ decimal plan.w2 ∷ []) ∷ []

-- a group: its name, how many meters it has, its floor
abbrev pub group_fields : Group → List (List ℕ)
group_fields group = codes "group" ∷ group.name ∷ decimal (length group.spans) ∷ decimal group.floor ∷ []

-- a key in hexadecimal digits; nothing where it is missing
abbrev pub key_text : Option (List ℕ) → List ℕ
key_text None = []
key_text (Some key) = encode_lower key

-- a key: the meter or the two meters that it belongs to, and its digits
abbrev pub key_fields : KeyId → Option (List ℕ) → List (List ℕ)
key_fields (Own g i) key = codes "own" ∷ decimal g ∷ decimal i ∷ key_text key ∷ []
key_fields (Pair g low high) key = codes "pair" ∷ decimal g ∷ decimal low ∷ decimal high ∷ key_text key ∷ []

-- a lane: its name, its argument, the ticks from which and to which it hangs
abbrev pub lane_fields : LaneRow → List (List ℕ)
lane_fields lane = codes "lane" ∷ lane.name ∷ lane.arg ∷ decimal lane.from ∷ decimal lane.to ∷ []

-- a member: its group, the meter, the rounds from which and until which it is one
abbrev pub member_fields : Span → List (List ℕ)
member_fields span = codes "member" ∷ decimal span.group ∷ decimal span.meter ∷ decimal span.from ∷ decimal span.until ∷ []

-- the span of meter i of group g
abbrev pub span_at : PlanView → (g i : ℕ) → Span
span_at plan g i = record { group = g; meter = i; from = (span_of plan.groups g i).from; until = (span_of plan.groups g i).until }

-- whether a span leaves out a round of the plan
abbrev pub is_partial : PlanView → Span → Bool
is_partial plan span = not ((span.from == 0) && (span.until == plan.rounds))

-- the spans of all meters, by group and then by meter
abbrev pub all_spans : PlanView → List Span
all_spans plan = flat_map (λ g. map (span_at plan g) (range_with_len 0 (size plan.groups g))) (range_with_len 0 (length plan.groups))

-- the spans that leave out a round
unfoldable pub partial_spans : PlanView → List Span
partial_spans plan = filter (is_partial plan) (all_spans plan)

-- the rows of all keys of the plan, in their order
abbrev pub key_rows : PlanView → Keys → List (List (List ℕ))
key_rows plan keys = map (λ which. key_fields which (keys.key which)) (plan_keys plan)

-- the rows of a plan file: after the groups its keys, its lanes, and the meters that aren't members in all rounds
unfoldable pub plan_rows : PlanFileView → List (List (List ℕ))
plan_rows file =
    first_rows Whole file.plan ++ map group_fields file.plan.groups ++ key_rows file.plan file.keys ++ map lane_fields file.lanes ++ map member_fields (partial_spans file.plan)

-- the text of a plan file
abbrev pub plan_text : PlanFileView → List ℕ
plan_text file = file_text (plan_rows file)

-- ---- the public plan

-- the rows of a public plan: after the groups the meters that aren't members in all rounds
unfoldable pub public_rows : PlanView → List (List (List ℕ))
public_rows plan = first_rows Public plan ++ (map group_fields plan.groups ++ map member_fields (partial_spans plan))

-- the text of a public plan
abbrev pub public_text : PlanView → List ℕ
public_text plan = file_text (public_rows plan)

-- ---- the readings file

-- a reading as a field: empty where it is absent
abbrev pub reading_field : Option ℕ → List ℕ
reading_field None = []
reading_field (Some n) = decimal n

-- the row of group g in round r: the group's name, the round, and a field for each meter
abbrev pub readings_row : PlanView → Table (Option ℕ) → (g r : ℕ) → List (List ℕ)
readings_row plan table g r = name_of plan.groups g ∷ decimal r ∷ map (λ i. reading_field (reading table g r i)) (range_with_len 0 (size plan.groups g))

-- the rows of a readings file, by group and then by round
unfoldable pub readings_rows : ReadingsView → List (List (List ℕ))
readings_rows readings =
    flat_map (λ g. map (readings_row readings.plan readings.table g) (range_with_len 0 readings.plan.rounds)) (range_with_len 0 (length readings.plan.groups))

-- the text of a readings file
abbrev pub readings_text : ReadingsView → List ℕ
readings_text readings = file_text (readings_rows readings)
