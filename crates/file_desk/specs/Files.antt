-- The count of faults of a desk over files, and the names of the files that it has begun.
use Rattle.std.specs.Prelude.{◌≡◌, ℕ, Bool, is_some, List, Result, Ok, Err, string_bytes}
use Rattle.desk_outside.specs.declared.desk.FetchError.{FetchError}
use Rattle.desk_outside.specs.declared.desk.FetchError.TheVariants.{Failed as FetchFailed, TooLong as FetchTooLong, Memory as FetchMemory}
use Rattle.desk_outside.specs.declared.desk.DeskError.{DeskError}
use Rattle.desk_outside.specs.declared.desk.DeskError.TheVariants.{Failed, Memory}
use Rattle.file_desk.specs.declared.begun.BegunOnDisk.{BegunOnDisk}
use Rattle.file_desk.specs.declared.files.FileDesk.{FileDesk}
use Rattle.desk_outside.specs.Desk.{one_more}

-- how often its calls have failed
abbrev pub faults_of : {R : Type 0} → FileDesk R → ℕ
faults_of d = d.faults

-- the name for which a file was begun
abbrev pub begun_name : {R FilesOfR : Type 0} → BegunOnDisk R FilesOfR → List ℕ
begun_name file = string_bytes file.name

-- whether something of it has failed
abbrev pub has_failed : {R FilesOfR : Type 0} → BegunOnDisk R FilesOfR → Bool
has_failed file = is_some file.error

-- a fetch or a pour is counted where it failed, and nowhere else
abbrev pub CountsFetch : {T : Type 0} → ℕ → ℕ → Result T FetchError → Type 0
CountsFetch before now (Ok given) = now ≡ before
CountsFetch before now (Err FetchFailed) = now ≡ one_more before
CountsFetch before now (Err (FetchTooLong seen)) = now ≡ before
CountsFetch before now (Err FetchMemory) = now ≡ before

-- a put, a say or a complaint is counted where it failed, and nowhere else
abbrev pub Counts : ℕ → ℕ → Result (Unit {0}) DeskError → Type 0
Counts before now (Ok done) = now ≡ before
Counts before now (Err Failed) = now ≡ one_more before
Counts before now (Err Memory) = now ≡ before
