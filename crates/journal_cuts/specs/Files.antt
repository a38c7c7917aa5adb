-- The file of a journal on a disk that may crash: what the disk may then have of it.
use Rattle.std.specs.Prelude.{◌≡◌, ◌≤◌, ℕ, Bool, true, false, List, [], ◌∷◌, ◌++◌, length, ⊤}
use Rattle.sqlite_disk.specs.History.{MayLeave, Step, resized, wrote}
use Rattle.desk_outside.specs.Wire.{Source, journal_after}
use Rattle.desk_outside.specs.declared.wire.WireStep.{WireStep}
use Rattle.desk_outside.specs.declared.wire.WireStep.TheVariants.{Opened, Unopened, Recalled, Unrecalled, Emptied, Trimmed, Appended, Flushed, Heard, Unheard, Said}

-- what is read of a journal, what of it was brought to the disk last, and what was asked of the disk since, the newest first
pub record JournalFile : Type 0 where
  pub source : Source
  pub flushed : List ℕ
  pub since : List Step

-- what a step asks of the disk, as long as nothing is flushed
abbrev pub since_after : Source → WireStep → List Step → List Step
since_after source (Opened name front) since = since
since_after source (Unopened name) since = since
since_after source (Recalled what text) since = since
since_after source Unrecalled since = since
since_after source (Emptied failed) since = resized 0 ∷ since
since_after source (Trimmed failed) since = resized source.place ∷ since
since_after source (Appended bytes failed) since = wrote (length source.bytes) (length bytes) bytes ∷ since
since_after source (Flushed true) since = since
since_after source (Flushed false) since = []
since_after source (Heard what text) since = since
since_after source Unheard since = since
since_after source (Said bytes failed) since = since

-- a flush brings all of the journal to the disk
abbrev pub flushed_after : Source → WireStep → List ℕ → List ℕ
flushed_after source (Opened name front) flushed = flushed
flushed_after source (Unopened name) flushed = flushed
flushed_after source (Recalled what text) flushed = flushed
flushed_after source Unrecalled flushed = flushed
flushed_after source (Emptied failed) flushed = flushed
flushed_after source (Trimmed failed) flushed = flushed
flushed_after source (Appended bytes failed) flushed = flushed
flushed_after source (Flushed true) flushed = flushed
flushed_after source (Flushed false) flushed = source.bytes
flushed_after source (Heard what text) flushed = flushed
flushed_after source Unheard flushed = flushed
flushed_after source (Said bytes failed) flushed = flushed

-- the file after a step of a wire
abbrev pub file_after : JournalFile → WireStep → JournalFile
file_after file step = record {
  source = journal_after step file.source;
  flushed = flushed_after file.source step file.flushed;
  since = since_after file.source step file.since;
}

-- and after some more, the first of them first
abbrev pub file_behind : JournalFile → List WireStep → JournalFile
file_behind file [] = file
file_behind file (step ∷ steps) = file_behind (file_after file step) steps

-- all that the file has is on the disk
pub record IsSettled (file : JournalFile) : Type 0 where
  pub flushed : file.flushed ≡ file.source.bytes
  pub since : file.since ≡ []

-- a crash may leave these bytes of the file, whether or not a byte that was being written over is always the old or the new one
abbrev pub CrashLeaves : JournalFile → List ℕ → Type 0
CrashLeaves file left = (mixes : Bool) × MayLeave mixes file.source.bytes file.flushed file.since left

-- bytes begin with these
pub record BeginsWith (first bytes : List ℕ) : Type 0 where
  pub behind : List ℕ
  pub is : bytes ≡ first ++ behind

-- the file begins with these bytes, as it is read, and as any crash leaves it
pub record KeepsFirst (first : List ℕ) (file : JournalFile) : Type 0 where
  pub bytes : BeginsWith first file.source.bytes
  pub left : (left : List ℕ) → CrashLeaves file left → BeginsWith first left

-- a step takes away nothing that was flushed
abbrev pub Spares : JournalFile → WireStep → Type 0
Spares file (Opened name front) = ⊤
Spares file (Unopened name) = ⊤
Spares file (Recalled what text) = ⊤
Spares file Unrecalled = ⊤
Spares file (Emptied failed) = ⊥
Spares file (Trimmed failed) = length file.flushed ≤ file.source.place
Spares file (Appended bytes failed) = ⊤
Spares file (Flushed failed) = ⊤
Spares file (Heard what text) = ⊤
Spares file Unheard = ⊤
Spares file (Said bytes failed) = ⊤

-- nor does any of these
abbrev pub SpareAll : JournalFile → List WireStep → Type 0
SpareAll file [] = ⊤
SpareAll file (step ∷ steps) = Spares file step × SpareAll (file_after file step) steps

-- a step leaves the file as long as it is, or appends to it
abbrev pub is_onward : WireStep → Bool
is_onward (Opened name front) = true
is_onward (Unopened name) = true
is_onward (Recalled what text) = true
is_onward Unrecalled = true
is_onward (Emptied failed) = false
is_onward (Trimmed failed) = false
is_onward (Appended bytes failed) = true
is_onward (Flushed failed) = true
is_onward (Heard what text) = true
is_onward Unheard = true
is_onward (Said bytes failed) = true
