-- What is read of a file that is accepted.
use Rattle.std.specs.Prelude.{◌≡◌, ℕ, List, Ok}
use Rattle.group_plan.specs.Plans.{IsWithinLimits, PlanView}
use Rattle.group_plan.specs.Tables.{IsReadingTable, ReadingsView}
use Rattle.pair_keys.specs.Keys.{IsComplete}
use Rattle.plan_files.specs.PlanFiles.{PlanFileView, plan_of}
use Rattle.plan_files.specs.Readings.{readings_of}

-- a plan within the limits, and all its keys
pub record IsWhole (file : PlanFileView) : Type 0 where
  pub limits : IsWithinLimits file.plan
  pub same_plan : file.keys.plan ≡ file.plan
  pub complete : IsComplete file.keys

-- what a plan file is read as
abbrev pub AcceptedPlansAreWhole : Type 0
AcceptedPlansAreWhole = (bytes : List ℕ) (file : PlanFileView) → plan_of bytes ≡ Ok file → IsWhole file

-- what a readings file is read as
pub record AreReadingsOf (plan : PlanView) (readings : ReadingsView) : Type 0 where
  pub same_plan : readings.plan ≡ plan
  pub table : IsReadingTable plan readings.table

abbrev pub AcceptedReadingsAreTables : Type 0
AcceptedReadingsAreTables = (plan : PlanView) (bytes : List ℕ) (readings : ReadingsView) → readings_of plan bytes ≡ Ok readings → AreReadingsOf plan readings
