-- Histories of turns: who made which commit, and the line that was added.
use Rattle.std.specs.Prelude.{◌≡◌, ℕ, ◌==◌, if◌then◌else◌, List, [], ◌∷◌, ◌++◌, map}
use Rattle.event_schedule.specs.declared.Line.{Line}
use Rattle.group_book.specs.Books.{BookView}
use Rattle.group_book.specs.Replay.{IsLedger}
use Rattle.shared_book.specs.declared.turn.Turn.{Turn}

-- the turn by which the pass with this number added a line
abbrev pub turn : ℕ → Line → Turn
turn number line = record { number = number; line = line }

-- the turns by which it added some lines
abbrev pub turns_of : ℕ → List Line → List Turn
turns_of number lines = map (turn number) lines

-- the lines of some turns
abbrev pub lines_of : List Turn → List Line
lines_of turns = map (λ t. t.line) turns

-- the turns of the pass with this number
abbrev pub turns_by : ℕ → List Turn → List Turn
turns_by n [] = []
turns_by n (t ∷ ts) = if t.number == n then t ∷ turns_by n ts else turns_by n ts

-- the journal after some turns
abbrev pub journal_after : BookView → List Turn → List Line
journal_after o turns = o.journal ++ lines_of turns

-- a legal history: the opening journal with its lines is a book's journal, so each line is the core's after those before it,
-- and each Send has its frame
abbrev pub IsLegal : BookView → List Turn → Type 0
IsLegal o turns = IsLedger o.presence (journal_after o turns)

-- a history begins with what was seen of it
abbrev pub StartsWith : List Turn → List Turn → Type 0
StartsWith log seen = (rest : List Turn) × (log ≡ seen ++ rest)
