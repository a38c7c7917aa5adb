-- What `make` answers.
use Rattle.std.specs.Prelude.{◌≡◌, ℕ, true, false, Result, Ok, Err}
use Rattle.load_maker.specs.Made.{made_file, made_readings}
use Rattle.load_maker.specs.Sizes.{is_within}
use Rattle.load_maker.specs.declared.MakeError.{MakeError}
use Rattle.load_maker.specs.declared.MakeError.TheVariants.{Memory, Range}
use Rattle.load_maker.specs.declared.MadeFiles.{MadeFiles}
use Rattle.plan_files.specs.Spelling.{plan_text, readings_text}

-- both files, where the numbers are within the limits, and else a refusal; want of memory is free
abbrev pub Makes : (seed groups meters rounds : ℕ) → Result MadeFiles MakeError → Type 0
Makes seed groups meters rounds (Ok made) =
    (is_within groups meters rounds ≡ true)
    × (made.plan.items ≡ plan_text (made_file seed groups meters rounds))
    × (made.readings.items ≡ readings_text (made_readings seed groups meters rounds))
Makes seed groups meters rounds (Err Range) = is_within groups meters rounds ≡ false
Makes seed groups meters rounds (Err Memory) = Unit {0}
