-- How `meter METER JOURNAL` ends, and what it leaves of the desk and of the wire.
use Rattle.std.specs.Prelude.{◌≡◌, ◌⊎◌, ℕ, List, [], ◌∷◌, Some, Ok, Err, ⊤}
use Rattle.meter_apart.specs.declared.answers.Noted.{Noted}
use Rattle.meter_apart.specs.declared.keys.MeterKeys.{MeterKeys}
use Rattle.meter_apart.specs.declared.meter.MeterApart.{MeterApart}
use Rattle.meter_apart.specs.declared.part.Part.{Part}
use Rattle.meter_apart.specs.Keys.{MakesKeys}
use Rattle.meter_apart.specs.Parts.{MakesPart}
use Rattle.meter_files.specs.PartFiles.{MeterFileView, part_of}
use Rattle.desk_outside.specs.Desk.{View}
use Rattle.desk_outside.specs.Wire.{WireView}
use Rattle.apart_roles.specs.declared.outcome.Start.TheVariants.{Ready}
use Rattle.apart_roles.specs.MeterRuns.{IsRun, StopsInRun}
use Rattle.apart_roles.specs.MeterStarts.{IsMeter, MeterStarts}
use Rattle.command_words.specs.declared.outcome.Outcome.{Outcome}
use Rattle.command_words.specs.declared.outcome.Outcome.TheVariants.{NoMemory, BadPlan, Done}
use Rattle.command_files.specs.Calls.{IsRead, Unread, after_fetches}
use Rattle.role_commands.specs.Told.{NotStarted, Stopped}

-- ---- the meter file

-- the meter file is refused; want of memory is free
abbrev pub MeterRefuses : (meter bytes : List ℕ) → Outcome → Type 0
MeterRefuses meter bytes (BadPlan name fault) = (name.now ≡ meter) × (part_of bytes ≡ Err fault)
MeterRefuses meter bytes NoMemory = ⊤
MeterRefuses meter bytes _ = ⊥

-- the keys are those of the file, and of the meter that it is about
pub record AreKeysOf (file : MeterFileView) (keys : MeterKeys) : Type 0 where
  pub part : Part
  pub part_is : MakesPart file.home file.group file.meter (Some part)
  pub keys_are : MakesKeys part file.own file.pairs (Some keys)

-- ---- the course

-- from the lines of its journal on: the input ends, or a line is not heard, or not answered
abbrev pub RunEnds : MeterApart → List Noted → (journal : List ℕ) → WireView → WireView → Outcome → Type 0
RunEnds meter lines journal x y Done = (new : MeterApart) × IsRun meter lines x y new
RunEnds meter lines journal x y outcome = Stopped journal (λ error. StopsInRun meter lines error x y) outcome

-- a meter starts over its journal; and whichever lines give its state, it runs from these lines
pub record Meters (keys : MeterKeys) (journal : List ℕ) (x y : WireView) (outcome : Outcome) : Type 0 where
  pub meter : MeterApart
  pub started : WireView
  pub starts : MeterStarts keys journal x started (Ok (Ready meter))
  pub runs : (lines : List Noted) → IsMeter keys lines meter → RunEnds meter lines journal started y outcome

-- ---- the command

-- the meter file is read: the meter starts and runs, or it does not start
abbrev pub MetersBy : MeterKeys → (journal : List ℕ) → (x y : WireView) → Outcome → Type 0
MetersBy keys journal x y outcome = NotStarted journal (MeterStarts keys journal x y) outcome ⊎ Meters keys journal x y outcome

-- how it ends: METER is not read, or it is refused, and the wire is as before; or its meter runs. The desk is as the fetch leaves it
abbrev pub MeterEnds : (meter journal : List ℕ) → (v w : View) → (x y : WireView) → Outcome → Type 0
MeterEnds meter journal v w x y outcome =
    (Unread (meter ∷ []) v w outcome × (y ≡ x))
    ⊎ ((bytes : List ℕ) × IsRead (v.held meter) bytes × (w ≡ after_fetches (meter ∷ []) v)
    × ((MeterRefuses meter bytes outcome × (y ≡ x))
    ⊎ ((file : MeterFileView) × (part_of bytes ≡ Ok file) × (keys : MeterKeys) × AreKeysOf file keys × MetersBy keys journal x y outcome)))
