-- How the files of the meters of a group are put.
use Rattle.std.specs.Prelude.{◌≡◌, ◌⊎◌, ℕ, List, [], ◌∷◌, ◌++◌, Result, Ok, Err, ⊤}
use Rattle.std.specs.List.{All, flat_map, range_with_len}
use Rattle.pair_keys.specs.Keys.{Keys as KeysOf}
use Rattle.desk_outside.specs.Begun.{IsTaken}
use Rattle.desk_outside.specs.Desk.{View, Step, Stored, Unstored, after_step, after_steps, Rose}
use Rattle.meter_files.specs.declared.names.PartFile.TheVariants.{Keys, Journal}
use Rattle.meter_files.specs.declared.putting.PartFailure.{PartFailure}
use Rattle.meter_files.specs.declared.putting.PartFailure.TheVariants.{Memory, Unwritable}
use Rattle.meter_files.specs.Names.{part_name}
use Rattle.meter_files.specs.Spelling.{journal_head, meter_text}

-- ---- the files

-- the two files of meter i of group g, which has nothing in its journal but the head
abbrev pub files_at : KeysOf → (g : ℕ) (prefix : List ℕ) (i : ℕ) → List Step
files_at keys g prefix i =
    Stored (part_name prefix i Keys) (meter_text keys g i) ∷ Stored (part_name prefix i Journal) (journal_head keys.plan g g i) ∷ []

-- those of the first n meters
unfoldable pub files_below : KeysOf → (g : ℕ) (prefix : List ℕ) (n : ℕ) → List Step
files_below keys g prefix n = flat_map (files_at keys g prefix) (range_with_len 0 n)

-- ---- where it stops

-- the name holds nothing, as far as that is told
abbrev pub IsFree : View → List ℕ → Type 0
IsFree v name = ¬ IsTaken (v.held name)

-- the first of the names that can't be written: those before it are free, and nothing was put
pub record StopsAtName (names : List (List ℕ)) (v w : View) (name : List ℕ) : Type 0 where
  pub front : List (List ℕ)
  pub rest : List (List ℕ)
  pub split : names ≡ front ++ name ∷ rest
  pub free : All (IsFree v) front
  pub left : w ≡ after_step v (Unstored name)

-- the files before it were put, and this one can't be
pub record StopsAtFile (files : List Step) (v w : View) (name : List ℕ) : Type 0 where
  pub front : List Step
  pub rest : List Step
  pub bytes : List ℕ
  pub split : files ≡ front ++ Stored name bytes ∷ rest
  pub left : w ≡ after_step (after_steps v front) (Unstored name)

-- some of the files were put, from the first on, and nothing else was done
pub record PutsSome (files : List Step) (v w : View) : Type 0 where
  pub front : List Step
  pub rest : List Step
  pub split : files ≡ front ++ rest
  pub left : w ≡ after_steps v front

-- ---- how the steps end

-- the names are free, or the first that can't be written is told
abbrev pub ChecksNames : (prefix : List ℕ) (names : List (List ℕ)) (v w : View) → Result (Unit {0}) PartFailure → Type 0
ChecksNames prefix names v w (Ok done) = All (IsFree v) names × (w ≡ v)
ChecksNames prefix names v w (Err Memory) = w ≡ v
ChecksNames prefix names v w (Err (Unwritable i file)) = StopsAtName names v w (part_name prefix i file)

-- the files are put, or the first that can't be
abbrev pub PutsFiles : (prefix : List ℕ) (files : List Step) (v w : View) → Result (Unit {0}) PartFailure → Type 0
PutsFiles prefix files v w (Ok done) = w ≡ after_steps v files
PutsFiles prefix files v w (Err Memory) = PutsSome files v w
PutsFiles prefix files v w (Err (Unwritable i file)) = StopsAtFile files v w (part_name prefix i file)

-- all names are free and the files are put; or the first name that can't be written is told, and nothing is put
abbrev pub PutsParts : (prefix : List ℕ) (names : List (List ℕ)) (files : List Step) (v w : View) → Result (Unit {0}) PartFailure → Type 0
PutsParts prefix names files v w (Ok done) = All (IsFree v) names × (w ≡ after_steps v files)
PutsParts prefix names files v w (Err Memory) = PutsSome files v w
PutsParts prefix names files v w (Err (Unwritable i file)) =
    StopsAtName names v w (part_name prefix i file) ⊎ (All (IsFree v) names × StopsAtFile files v w (part_name prefix i file))

-- a file that can't be written is a fault of the desk
abbrev pub FaultRose : Result (Unit {0}) PartFailure → (before now : ℕ) → Type 0
FaultRose (Err (Unwritable i file)) before now = Rose before now
FaultRose (Err Memory) before now = ⊤
FaultRose (Ok done) before now = ⊤
