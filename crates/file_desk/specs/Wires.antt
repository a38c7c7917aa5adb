-- The count of faults of a wire over files, and what it tells.
use Rattle.std.specs.Prelude.{◌≡◌, ℕ, None, Result, Ok, Err}
use Rattle.desk_outside.specs.Desk.{one_more}
use Rattle.desk_outside.specs.Wire.{WireView}
use Rattle.desk_outside.specs.declared.wire.WireError.{WireError}
use Rattle.desk_outside.specs.declared.wire.WireError.TheVariants.{Failed, Memory}
use Rattle.file_desk.specs.declared.wire.FileWire.{FileWire}

-- how often its calls have failed
abbrev pub faults_of : {R I : Type 0} → FileWire R I → ℕ
faults_of w = w.faults

-- what it tells: its faults alone
abbrev pub view_of : {R I : Type 0} → FileWire R I → WireView
view_of w = record { faults = w.faults; input = None; journal = None; steps = None }

-- a call is counted where it failed, and nowhere else
abbrev pub CountsFault : {T : Type 0} → ℕ → ℕ → Result T WireError → Type 0
CountsFault before now (Ok done) = now ≡ before
CountsFault before now (Err Failed) = now ≡ one_more before
CountsFault before now (Err Memory) = now ≡ before

-- the value that is given on
abbrev pub GivesOn : {T E : Type 0} → Result T E → Result T WireError → Type 0
GivesOn (Ok value) (Ok given) = given ≡ value
GivesOn (Ok value) (Err error) = ⊥
GivesOn (Err error) (Ok given) = ⊥
GivesOn (Err error) (Err other) = Unit {0}
