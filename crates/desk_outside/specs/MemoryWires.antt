-- A wire in memory: what it tells, and which of its calls fail.
use Rattle.std.specs.Prelude.{◌≡◌, ℕ, Bool, true, false, List, [], Some, Result, Ok, Err, ⊤}
use Rattle.desk_outside.specs.declared.memory_wire.MemoryWire.{MemoryWire}
use Rattle.desk_outside.specs.declared.wire.WireError.{WireError}
use Rattle.desk_outside.specs.declared.wire.WireError.TheVariants.{Failed, Memory}
use Rattle.desk_outside.specs.Memory.{Turns, is_failing}
use Rattle.desk_outside.specs.Wire.{WireView}

-- what the wire tells, which is everything
abbrev pub view_of : MemoryWire → WireView
view_of w = record {
  faults = w.turns.faults;
  input = Some (record { bytes = w.input.items; place = w.heard });
  journal = Some (record { bytes = w.journal.items; place = w.recalled });
  steps = Some w.steps.items;
}

-- nothing was read of the input and of the journal, and nothing was called
abbrev pub new_view : (input journal : List ℕ) → WireView
new_view input journal = record {
  faults = 0;
  input = Some (record { bytes = input; place = 0 });
  journal = Some (record { bytes = journal; place = 0 });
  steps = Some [];
}

-- the numbers of the calls that fail, the number of the next call, and the count of faults
abbrev pub turns_of : MemoryWire → Turns
turns_of w = record { failing = w.turns.failing.items; next = w.turns.next; faults = w.turns.faults }

-- whether the next call fails
abbrev pub is_next_failing : MemoryWire → Bool
is_next_failing w = is_failing (turns_of w)

-- a call answers `Failed` exactly where it fails
abbrev pub FailsWhere : {A : Type 0} → Bool → Result A WireError → Type 0
FailsWhere fails (Ok done) = fails ≡ false
FailsWhere fails (Err Failed) = fails ≡ true
FailsWhere fails (Err Memory) = ⊤
