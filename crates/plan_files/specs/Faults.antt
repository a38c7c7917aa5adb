-- How the reading of a file ends: with its value, or with its first fault.
use Rattle.std.specs.Prelude.{◌≡◌, ℕ, Option, Some, None, Result, Ok, Err}
use Rattle.plan_files.specs.declared.fault.Failed.{Failed}
use Rattle.plan_files.specs.declared.fault.Failed.TheVariants.{Memory, Fault}
use Rattle.plan_files.specs.declared.fault.FileCause.{FileCause}
use Rattle.plan_files.specs.declared.fault.FileFault.{FileFault}

-- what is wrong with a row, counted from 1; row 0 is the file as a whole
abbrev pub in_row : ℕ → FileCause → FileFault
in_row row what = record { row = row; cause = what }

-- the value, where there is no fault
abbrev pub unless : {X E : Type 0} → Option E → X → Result X E
unless None value = Ok value
unless (Some fault) value = Err fault

-- a step after one that went well
infixl 10 ◌>>=◌
abbrev pub ◌>>=◌ : {A B E : Type 0} → Result A E → (A → Result B E) → Result B E
Ok value >>= next = next value
Err fault >>= next = Err fault

-- a fault of a row as the file's
abbrev pub at_row : {A : Type 0} → ℕ → Result A FileCause → Result A FileFault
at_row row (Ok value) = Ok value
at_row row (Err what) = Err (in_row row what)

-- a failure of a row as the file's
abbrev pub failed_in_row : ℕ → Failed FileCause → Failed FileFault
failed_in_row row Memory = Memory
failed_in_row row (Fault what) = Fault (in_row row what)

-- the answer is this fault; want of memory is free
abbrev pub Fails : {A E : Type 0} → Result A E → Failed E → Type 0
Fails expected Memory = Unit {0}
Fails expected (Fault fault) = expected ≡ Err fault

-- the answer is this value or this fault; want of memory is free
abbrev pub Ends : {A E : Type 0} → Result A E → Result A (Failed E) → Type 0
Ends expected (Ok value) = expected ≡ Ok value
Ends expected (Err failed) = Fails expected failed
