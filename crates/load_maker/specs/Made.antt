-- What the two files of the load maker say.
use Rattle.std.specs.Prelude.{ℕ, ◌+◌, ◌*◌, List, [], ◌∷◌, ◌++◌, codes, decimal, length, map, position, Option}
use Rattle.std.specs.List.{range_with_len}
use Rattle.std.specs.Option.{option_map}
use Rattle.group_plan.specs.NewPlans.{plan_of}
use Rattle.group_plan.specs.Plans.{PlanView, last_tick}
use Rattle.group_plan.specs.Tables.{ReadingsView, table_of}
use Rattle.group_plan.specs.declared.plan.GroupPlan.{GroupPlan}
use Rattle.link_lanes.specs.declared.row.LaneRow.{LaneRow}
use Rattle.pair_keys.specs.Ids.{same_id}
use Rattle.pair_keys.specs.Keys.{Keys}
use Rattle.plan_files.specs.MissingKeys.{plan_keys}
use Rattle.plan_files.specs.PlanFiles.{PlanFileView}
use Rattle.load_maker.specs.Drawing.{key_drawn, reading_drawn, stream_at}

-- the name of group g: `g` and its number
abbrev pub group_name : ℕ → List ℕ
group_name g = codes "g" ++ decimal g

-- group g of so many meters
abbrev pub made_group : (meters g : ℕ) → GroupPlan
made_group meters g = record { name = group_name g; meters = meters; floor = 2 }

-- equal groups, whose meters are members in all rounds; windows of 2 and 4 ticks
unfoldable pub made_plan : (groups meters rounds : ℕ) → PlanView
made_plan groups meters rounds = plan_of (map (made_group meters) (range_with_len 0 groups)) rounds 2 4

-- key number q: eight words of stream 1
abbrev pub made_key : (seed q : ℕ) → List ℕ
made_key seed q = key_drawn (stream_at seed 1 (8 * q))

-- the keys of a plan, numbered from 0 in their order
unfoldable pub made_keys : ℕ → PlanView → Keys
made_keys seed plan = record { plan = plan; key = λ which. option_map (made_key seed) (position (same_id which) (plan_keys plan)) }

-- the lane `seeded` for all ticks: of 1000 posts it loses 5 and doubles 10, with delays of 1 and 2; its row follows the keys
abbrev pub made_lane : ℕ → PlanView → LaneRow
made_lane seed plan = record {
  row = 4 + length plan.groups + length (plan_keys plan);
  name = codes "seeded";
  arg = decimal seed ++ codes ":5:10:2";
  from = 0;
  to = last_tick plan;
}

-- what the plan file says
unfoldable pub made_file : (seed groups meters rounds : ℕ) → PlanFileView
made_file seed groups meters rounds =
    let plan = made_plan groups meters rounds in
    record { plan = plan; keys = made_keys seed plan; lanes = made_lane seed plan ∷ [] }

-- reading number p: two words of stream 2
abbrev pub made_reading : (seed p : ℕ) → Option ℕ
made_reading seed p = reading_drawn (stream_at seed 2 (2 * p))

-- what the readings file says: readings numbered from 0 by group, round and meter
unfoldable pub made_readings : (seed groups meters rounds : ℕ) → ReadingsView
made_readings seed groups meters rounds =
    let plan = made_plan groups meters rounds in
    record { plan = plan; table = table_of plan (λ g r i. made_reading seed ((g * rounds + r) * meters + i)) }
