-- What a wire over files leaves of a call that brings bytes outside.
use Rattle.std.proofs.Common.{ap, ℕ, List, [], None, Result, Ok, Err, refl}
use Rattle.desk_outside.specs.Wire.{AppendEnds, SayEnds, WireView, after_step}
use Rattle.desk_outside.specs.declared.wire.WireError.{WireError}
use Rattle.desk_outside.specs.declared.wire.WireError.TheVariants.{Failed, Memory}
use Rattle.file_desk.specs.Wires.{CountsFault}

-- so many faults are told, and nothing else
abbrev pub only : ℕ → WireView
only faults = record { faults = faults; input = None; journal = None; steps = None }

pub appended : (bytes : List ℕ) (before now : ℕ) (r : Result (Unit {0}) WireError) → CountsFault before now r → AppendEnds bytes (only before) (only now) r
unfolding after_step
appended bytes before now (Ok done) is = ap only is
appended bytes before now (Err Failed) is = ([], (0, refl), ap only is)
appended bytes before now (Err Memory) is = ap only is

pub said : (bytes : List ℕ) (before now : ℕ) (r : Result (Unit {0}) WireError) → CountsFault before now r → SayEnds bytes (only before) (only now) r
unfolding after_step
said bytes before now (Ok done) is = ap only is
said bytes before now (Err Failed) is = ([], (0, refl), ap only is)
said bytes before now (Err Memory) is = ap only is
