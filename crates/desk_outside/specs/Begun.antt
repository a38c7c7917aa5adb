-- Which names are taken, and what a commit of a file that was begun leaves.
use Rattle.std.specs.Prelude.{◌≡◌, ℕ, Bool, false, List, Some, None, Result, Ok, Err}
use Rattle.desk_outside.specs.declared.desk.DeskError.{DeskError}
use Rattle.desk_outside.specs.declared.desk.DeskError.TheVariants.{Failed, Memory}
use Rattle.desk_outside.specs.Desk.{View, Held, Stored, Unstored, after_step}

-- it is told that the name holds something
abbrev pub IsTaken : Held → Type 0
IsTaken (Some (Some bytes)) = Unit {0}
IsTaken (Some None) = ⊥
IsTaken None = ⊥

-- nothing of the file had failed and its bytes are put, or else the name holds what it held
abbrev pub CommitEnds : (has : List ℕ → Type 0) (has_failed : Bool) (name : List ℕ) → View → View → Result (Unit {0}) DeskError → Type 0
CommitEnds has has_failed name v w (Ok done) = (has_failed ≡ false) × ((bytes : List ℕ) → has bytes → w ≡ after_step v (Stored name bytes))
CommitEnds has has_failed name v w (Err Failed) = w ≡ after_step v (Unstored name)
CommitEnds has has_failed name v w (Err Memory) = w ≡ v
