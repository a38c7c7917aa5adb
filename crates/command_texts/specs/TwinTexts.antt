-- What the program holds of the four files of `twin`.
use Rattle.command_texts.specs.declared.twin.TwinTexts.{TwinTexts}
use Rattle.command_texts.specs.Twins.{TwinBytes}
use Rattle.std.specs.Prelude.{◌≤◌, length, ◌≡◌, ◌⊎◌, Ok, Err, ⊤, Result, ℕ, List}
use Rattle.command_words.specs.Limits.{most_bytes}
use Rattle.group_plan.specs.Plans.{PlanView}
use Rattle.group_plan.specs.Tables.{ReadingsView}
use Rattle.plan_files.specs.Readings.{readings_of}
use Rattle.command_words.specs.declared.outcome.Outcome.{Outcome}
use Rattle.command_words.specs.declared.outcome.Outcome.TheVariants.{NoMemory, BadReadings}
use Rattle.command_words.specs.Words.{TwinNames}
use Rattle.command_texts.specs.declared.twin.Tables.{Tables}

-- the bytes that are held, and those of the transcript
abbrev pub bytes_with : TwinTexts → List ℕ → TwinBytes
bytes_with texts transcript = record { plan = texts.plan.items; readings = texts.readings.items; other = texts.other.items; transcript = transcript }

-- none of the files has too many bytes
pub record AreShort (texts : TwinTexts) : Type 0 where
  pub plan : length texts.plan.items ≤ most_bytes
  pub readings : length texts.readings.items ≤ most_bytes
  pub other : length texts.other.items ≤ most_bytes

-- the first readings file has a fault for the plan, or else the second; want of memory is free
abbrev pub TablesRefused : TwinNames → TwinBytes → PlanView → Outcome → Type 0
TablesRefused names bytes plan (BadReadings name fault) =
    ((name.now ≡ names.readings) × (readings_of plan bytes.readings ≡ Err fault))
    ⊎ ((name.now ≡ names.other) × ((first : ReadingsView) × (readings_of plan bytes.readings ≡ Ok first) × (readings_of plan bytes.other ≡ Err fault)))
TablesRefused names bytes plan NoMemory = ⊤
TablesRefused names bytes plan _ = ⊥

-- both tables, or why there are none
abbrev pub TablesEnd : TwinNames → TwinBytes → PlanView → Result Tables Outcome → Type 0
TablesEnd names bytes plan (Ok tables) = (readings_of plan bytes.readings ≡ Ok tables.first) × (readings_of plan bytes.other ≡ Ok tables.second)
TablesEnd names bytes plan (Err outcome) = TablesRefused names bytes plan outcome
