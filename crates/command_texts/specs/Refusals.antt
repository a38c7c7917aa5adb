-- What is refused of the files of a command, by its cause.
use Rattle.std.specs.Prelude.{◌≡◌, ℕ, List, Err, ⊤, Ok}
use Rattle.group_plan.specs.Plans.{PlanView}
use Rattle.plan_files.specs.Readings.{readings_of}
use Rattle.command_words.specs.declared.outcome.Outcome.{Outcome}
use Rattle.command_words.specs.declared.outcome.Outcome.TheVariants.{NoMemory, BadReadings, BadPlan, BadLane}
use Rattle.link_lanes.specs.Lanes.{Meaning, Slot}
use Rattle.plan_files.specs.PlanFiles.{plan_of, PlanFileView}
use Rattle.command_texts.specs.Runs.{RefusesLane, RefusesReadings}
use Rattle.link_lanes.specs.Fits.{hung_by}
use Rattle.plan_files.specs.declared.fault.FileFault.{FileFault}
use Rattle.plan_files.specs.Registers.{tables_of}
use Rattle.command_words.specs.Words.{RegisterNames}

-- the plan file is refused; want of memory is free
abbrev pub PublicRefuses : (plan bytes : List ℕ) → Outcome → Type 0
PublicRefuses plan bytes (BadPlan name fault) = (name.now ≡ plan) × (plan_of bytes ≡ Err fault)
PublicRefuses plan bytes NoMemory = ⊤
PublicRefuses plan bytes _ = ⊥

-- the readings file of a plan is refused; want of memory is free
abbrev pub ReadingsRefused : (name : List ℕ) → PlanView → (bytes : List ℕ) → Outcome → Type 0
ReadingsRefused readings plan bytes (BadReadings name fault) = (name.now ≡ readings) × (readings_of plan bytes ≡ Err fault)
ReadingsRefused readings plan bytes NoMemory = ⊤
ReadingsRefused readings plan bytes _ = ⊥

-- the plan file or one of its lane rows is refused; want of memory is free
abbrev pub PlanRefused : List Meaning → (name bytes : List ℕ) → Outcome → Type 0
PlanRefused cupboard plan bytes (BadPlan name fault) = (name.now ≡ plan) × (plan_of bytes ≡ Err fault)
PlanRefused cupboard plan bytes (BadLane fault) = RefusesLane cupboard bytes fault
PlanRefused cupboard plan bytes NoMemory = ⊤
PlanRefused cupboard plan bytes _ = ⊥

-- one of the two files of a run is refused, or a lane row; want of memory is free
abbrev pub FilesRefused : List Meaning → (plan readings p r : List ℕ) → Outcome → Type 0
FilesRefused cupboard plan readings p r (BadPlan name fault) = (name.now ≡ plan) × (plan_of p ≡ Err fault)
FilesRefused cupboard plan readings p r (BadLane fault) = RefusesLane cupboard p fault
FilesRefused cupboard plan readings p r (BadReadings name fault) = (name.now ≡ readings) × RefusesReadings cupboard p r fault
FilesRefused cupboard plan readings p r NoMemory = ⊤
FilesRefused cupboard plan readings p r _ = ⊥

-- the plan file has a value and its lane rows get their lanes, and the readings file of so many registers has this fault
abbrev pub RefusesTables : List Meaning → ℕ → List ℕ → List ℕ → FileFault → Type 0
RefusesTables cupboard count p r fault =
    (file : PlanFileView) × (slots : List Slot) × (plan_of p ≡ Ok file) × (hung_by cupboard file.lanes ≡ Ok slots) × (tables_of file.plan count r ≡ Err fault)

-- one of the two files of a run of several registers is refused, or a lane row; want of memory is free
abbrev pub RegistersRefuse : List Meaning → ℕ → RegisterNames → (p r : List ℕ) → Outcome → Type 0
RegistersRefuse cupboard count names p r (BadPlan name fault) = (name.now ≡ names.plan) × (plan_of p ≡ Err fault)
RegistersRefuse cupboard count names p r (BadLane fault) = RefusesLane cupboard p fault
RegistersRefuse cupboard count names p r (BadReadings name fault) = (name.now ≡ names.readings) × RefusesTables cupboard count p r fault
RegistersRefuse cupboard count names p r NoMemory = ⊤
RegistersRefuse cupboard count names p r _ = ⊥
