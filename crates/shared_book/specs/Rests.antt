-- Where a pass is between its calls.
use Rattle.std.specs.Prelude.{◌≡◌, ℕ, Bool, true, false, List, [], ◌∷◌, ◌++◌, map, Option, Some, None, is_some}
use Rattle.event_schedule.specs.declared.Line.{Line}
use Rattle.shared_book.specs.declared.handed.Handed.{Handed}
use Rattle.shared_book.specs.declared.turn.Turn.{Turn}
use Rattle.shared_book.specs.declared.turn.View.{View}
use Rattle.shared_book.specs.Turns.{turns_of}
use Rattle.shared_book.specs.Law.{Mine, Gives, done_with}

-- a slot that a pass carries: its group, and whether it has pages
abbrev pub marked : ℕ × Option Handed → ℕ × Bool
marked x = (x.0, is_some x.1)

-- that of the group whose pages a pass has, from which the pages were taken
abbrev pub carried : Option ℕ → List (ℕ × Bool)
carried None = []
carried (Some g) = (g, false) ∷ []

-- the slots that a pass carries
abbrev pub IsCarried : Option ℕ → List (ℕ × Option Handed) → Type 0
IsCarried held slots = map marked slots ≡ carried held

-- a pass that is not spent, with nothing left to learn
abbrev pub Rests : Mine → Type 0
Rests m = IsCarried m.0.held m.1 × (m.0.live ≡ true) × (m.0.pending ≡ false)

-- the slot was given back, with these lines
abbrev pub PutsBack : View → ℕ → List Line → Mine → Type 0
PutsBack v g lines m' = (before : List Turn) × (m' ≡ (done_with v (before ++ turns_of v.number lines), [])) × Gives v g lines before
