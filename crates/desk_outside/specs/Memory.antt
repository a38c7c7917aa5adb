-- A desk in memory: what it tells, and which of its calls fail.
use Rattle.std.specs.Prelude.{◌≡◌, ℕ, Bool, true, false, ◌||◌, if◌then◌else◌, List, [], Some, None, is_some, is_none, Result, Ok, Err, string_bytes, ⊤}
use Rattle.desk_outside.specs.declared.desk.FetchError.{FetchError}
use Rattle.desk_outside.specs.declared.desk.FetchError.TheVariants.{Failed as FetchFailed, TooLong as FetchTooLong, Memory as FetchMemory}
use Rattle.desk_outside.specs.declared.desk.DeskError.{DeskError}
use Rattle.desk_outside.specs.declared.desk.DeskError.TheVariants.{Failed, Memory}
use Rattle.desk_outside.specs.declared.memory.BegunInMemory.{BegunInMemory}
use Rattle.desk_outside.specs.declared.memory.MemoryDesk.{MemoryDesk}
use Rattle.desk_outside.specs.Parts.{held_in, is_failed, is_listed}
use Rattle.desk_outside.specs.Desk.{View, Step, stored, after_step, one_more}

-- what the desk tells, which is everything
abbrev pub view_of : MemoryDesk → View
view_of d = record { held = λ name. Some (held_in d.files name); said = Some d.said.items; complained = Some d.complained.items; calls = Some d.calls.items }

-- no name holds anything, and nothing was called
abbrev pub empty_view : View
empty_view = record { held = λ name. Some None; said = Some []; complained = Some []; calls = Some [] }

-- the outside once the name holds the bytes, with no call
abbrev pub after_place : View → List ℕ → List ℕ → View
after_place v name bytes = record v { held = stored v.held name bytes }

-- the name for which a file was begun
abbrev pub begun_name : BegunInMemory → List ℕ
begun_name file = string_bytes file.name

-- whether something of a begun file has failed
abbrev pub has_failed : BegunInMemory → Bool
has_failed file = is_some file.error

-- a begun file has these bytes, unless something has failed
abbrev pub has_bytes : BegunInMemory → List ℕ → Type 0
has_bytes file bytes = has_failed file ≡ false → file.bytes.items ≡ bytes

-- whether a begun file has failed since its name held something
abbrev pub was_taken : BegunInMemory → Bool
was_taken file = is_failed file.error

-- how often its calls have failed
abbrev pub faults_of : MemoryDesk → ℕ
faults_of d = d.turns.faults

-- the numbers of the calls that fail, the number of the next call, and the count of faults
pub record Turns : Type 0 where
  pub failing : List ℕ
  pub next : ℕ
  pub faults : ℕ

-- those of a desk
abbrev pub turns_of : MemoryDesk → Turns
turns_of d = record { failing = d.turns.failing.items; next = d.turns.next; faults = faults_of d }

-- the next call is one of those that fail
abbrev pub is_failing : Turns → Bool
is_failing t = is_listed t.failing t.next

-- the next call is a fetch or a pour that fails: it is one of those, or the name holds nothing
abbrev pub is_failing_fetch : MemoryDesk → List ℕ → Bool
is_failing_fetch d name = is_failing (turns_of d) || is_none (held_in d.files name)

-- after one more call, which raises the count where it fails
abbrev pub after_turn : Turns → Bool → Turns
after_turn t fails = record t { next = one_more t.next; faults = if fails then one_more t.faults else t.faults }

-- a fetch or a pour answers `Failed` exactly where it fails
abbrev pub FetchFails : {T : Type 0} → Bool → Result T FetchError → Type 0
FetchFails fails (Ok given) = fails ≡ false
FetchFails fails (Err FetchFailed) = fails ≡ true
FetchFails fails (Err (FetchTooLong seen)) = fails ≡ false
FetchFails fails (Err FetchMemory) = ⊤

-- another call answers `Failed` exactly where it fails, and then leaves this step alone
abbrev pub Fails : Bool → Step → View → View → Result (Unit {0}) DeskError → Type 0
Fails fails step v w (Ok done) = fails ≡ false
Fails fails step v w (Err Failed) = (fails ≡ true) × (w ≡ after_step v step)
Fails fails step v w (Err Memory) = ⊤
