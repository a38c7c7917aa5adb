-- The file that is spelled from a value is read as this value.
use Rattle.std.specs.Prelude.{◌≡◌, ℕ, ◌+◌, ◌≤◌, true, false, IsTrue, List, [], ◌∷◌, length, Some, None, Ok}
use Rattle.std.specs.List.{All, list_all}
use Rattle.group_plan.specs.Names.{is_name}
use Rattle.group_plan.specs.Plans.{IsWithinLimits, PlanView, last_tick}
use Rattle.group_plan.specs.Tables.{IsReadingTable, ReadingsView}
use Rattle.hex.specs.Hex.{IsBytes}
use Rattle.link_lanes.specs.ArgBytes.{is_arg_byte}
use Rattle.link_lanes.specs.declared.row.LaneRow.{LaneRow}
use Rattle.pair_keys.specs.Ids.{is_key}
use Rattle.pair_keys.specs.Keys.{IsComplete, Keys}
use Rattle.pair_keys.specs.declared.KeyId.{KeyId}
use Rattle.plan_files.specs.MissingKeys.{plan_keys}
use Rattle.plan_files.specs.PlainRows.{is_plain}
use Rattle.plan_files.specs.PlanFiles.{PlanFileView, plan_of, public_of}
use Rattle.plan_files.specs.Readings.{readings_of}
use Rattle.plan_files.specs.Spelling.{plan_text, public_text, readings_text}

-- 32 bytes
pub record IsKey (key : List ℕ) : Type 0 where
  pub long : length key ≡ 32
  pub bytes : IsBytes key

-- each key of the plan, and no other
pub record AreKeysOf (plan : PlanView) (keys : Keys) : Type 0 where
  pub of_plan : keys.plan ≡ plan
  pub complete : IsComplete keys
  pub no_other : (which : KeyId) → is_key plan which ≡ false → keys.key which ≡ None
  pub each : (which : KeyId) (key : List ℕ) → keys.key which ≡ Some key → IsKey key

-- a lane with a name and an argument of the right form, which hangs within the ticks of the plan
pub record IsLaneOf (plan : PlanView) (lane : LaneRow) : Type 0 where
  pub name : IsTrue (is_name lane.name)
  pub arg : list_all is_arg_byte lane.arg ≡ true
  pub order : lane.from ≤ lane.to
  pub last : lane.to ≤ last_tick plan

-- what a plan file may say
pub record IsPlanFile (file : PlanFileView) : Type 0 where
  pub limits : IsWithinLimits file.plan
  pub keys : AreKeysOf file.plan file.keys
  pub lanes : All (IsLaneOf file.plan) file.lanes

-- lanes whose arguments have no comma and no quote, in rows from n on
abbrev pub AreInRows : ℕ → List LaneRow → Type 0
AreInRows n [] = Unit {0}
AreInRows n (lane ∷ lanes) = (lane.row ≡ n) × (is_plain lane.arg ≡ true) × AreInRows (n + 1) lanes

-- the row of the first lane: it follows three rows, the groups and the keys
abbrev pub first_lane_row : PlanView → ℕ
first_lane_row plan = 4 + length plan.groups + length (plan_keys plan)

-- the text of a plan file is read as what it says
abbrev pub PlanFileIsRead : Type 0
PlanFileIsRead = (file : PlanFileView) → IsPlanFile file → AreInRows (first_lane_row file.plan) file.lanes → plan_of (plan_text file) ≡ Ok file

-- the text of a public plan is read as this plan
abbrev pub PublicPlanIsRead : Type 0
PublicPlanIsRead = (plan : PlanView) → IsWithinLimits plan → public_of (public_text plan) ≡ Ok plan

-- the text of a readings file is read as its readings
abbrev pub ReadingsFileIsRead : Type 0
ReadingsFileIsRead =
    (readings : ReadingsView) → IsWithinLimits readings.plan → IsReadingTable readings.plan readings.table → readings_of readings.plan (readings_text readings) ≡ Ok readings
