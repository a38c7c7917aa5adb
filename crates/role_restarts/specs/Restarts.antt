-- The lines of a journal, and a role that is in the state that they give.
use Rattle.std.specs.Prelude.{◌≡◌, ◌≤◌, ℕ, Bool, true, List, [], ◌∷◌, ◌++◌, length, Option, Some, ⊤}
use Rattle.desk_outside.specs.Wire.{Source, WireView, most_line}
use Rattle.journal_cuts.specs.Cuts.{bytes_by, is_text}

-- a line that is read as itself: its text has no newline, and is not too long
pub record IsLine {L : Type 0} (reads : List ℕ → Option L) (write : L → List ℕ) (line : L) : Type 0 where
  pub text : is_text (write line) ≡ true
  pub short : length (write line) ≤ most_line
  pub read : reads (write line) ≡ Some line

-- these are such lines, and each can follow those before it
abbrev pub AreLines : {L : Type 0} → (List ℕ → Option L) → (L → List ℕ) → (List L → L → Bool) → (before lines : List L) → Type 0
AreLines reads write can before [] = ⊤
AreLines reads write can before (line ∷ lines) = IsLine reads write line × (can before line ≡ true) × AreLines reads write can (before ++ line ∷ []) lines

-- the journal has its head and these lines, and nothing else, and the role is in the state that they give
pub record IsRestored {L R : Type 0} (write : L → List ℕ) (is : List L → R → Type 0) (head : List ℕ) (lines : List L) (w : WireView) (role : R) : Type 0 where
  pub source : Source
  pub told : w.journal ≡ Some source
  pub bytes : source.bytes ≡ head ++ bytes_by write lines
  pub after : is lines role
