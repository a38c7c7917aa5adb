-- What holds of what is left of a journal.
use Rattle.std.specs.Prelude.{◌≡◌, ◌≤◌, ℕ, Bool, true, false, List, ◌++◌, length}
use Rattle.std.specs.List.{list_all}
use Rattle.sqlite_disk.specs.History.{MayLeave}
use Rattle.desk_outside.specs.declared.wire.WireStep.{WireStep}
use Rattle.desk_outside.specs.declared.wire.WireStep.TheVariants.{Appended, Trimmed}
use Rattle.journal_cuts.specs.Cuts.{IsCut, are_texts}
use Rattle.journal_cuts.specs.Files.{BeginsWith, CrashLeaves, IsSettled, JournalFile, KeepsFirst, SpareAll, file_after, file_behind, is_onward}

-- every cut of lines, at a line's end or within a line, is whole lines and a rest without newline
abbrev pub CutsAreLines : Type 0
CutsAreLines = (texts : List (List ℕ)) (n : ℕ) → are_texts (λ text. text) texts ≡ true → IsCut (λ text. text) texts n

-- whatever crash comes behind steps that take away nothing that was flushed: all that was flushed is there
abbrev pub CrashesKeepFlushed : Type 0
CrashesKeepFlushed = (file : JournalFile) (steps : List WireStep) → IsSettled file → SpareAll file steps → KeepsFirst (file_behind file steps).flushed (file_behind file steps)

-- and where the steps only append and flush, behind it stand at most as many bytes as were appended since
abbrev pub CrashesLeaveNoMore : Type 0
CrashesLeaveNoMore = (file : JournalFile) (steps : List WireStep) (left : List ℕ) → IsSettled file → list_all is_onward steps ≡ true → CrashLeaves (file_behind file steps) left
    → BeginsWith (file_behind file steps).flushed left × (length left ≤ length (file_behind file steps).source.bytes)

-- by the model any bytes may stand there, as many as were appended, and not their beginning alone
abbrev pub AnyBytesMayStand : Type 0
AnyBytesMayStand = (mixes : Bool) (file : JournalFile) (appended others : List ℕ) → IsSettled file → length others ≤ length appended
    → let now = file_after file (Appended appended false) in MayLeave mixes now.source.bytes now.flushed now.since (file.flushed ++ others)

-- what a journal begins with whatever crash comes, it begins with behind a cut that leaves it
abbrev pub TrimsKeepFirst : Type 0
TrimsKeepFirst = (first : List ℕ) (file : JournalFile) → KeepsFirst first file → length first ≤ file.source.place → KeepsFirst first (file_after file (Trimmed false))
