-- What the program has outside: a desk and a wire.
use Rattle.std.specs.Prelude.{◌≡◌, ◌⊎◌, ℕ, Option, Some}
use Rattle.desk_outside.specs.Desk.{View, Rose}
use Rattle.desk_outside.specs.Wire.{WireView}
use Rattle.command_words.specs.Words.{Command, Collect, Meter}
use Rattle.command_words.specs.declared.outcome.Outcome.{Outcome}

-- what both show
pub record OutsideView : Type 0 where
  pub desk : View
  pub wire : WireView

-- a desk and a wire that show this
abbrev pub with_wire : View → WireView → OutsideView
with_wire desk wire = record { desk = desk; wire = wire }

-- a command ends so on the desk, and leaves the wire as it was found
abbrev pub OnDesk : (View → View → Outcome → Type 0) → OutsideView → OutsideView → Outcome → Type 0
OnDesk ends o p outcome = ends o.desk p.desk outcome × (p.wire ≡ o.wire)

-- the desk's count of faults rose, or that of the wire for a command that hears lines
abbrev pub FaultsRose : Option Command → (before now : ℕ) → (found left : WireView) → Type 0
FaultsRose (Some (Collect names)) before now found left = Rose before now ⊎ Rose found.faults left.faults
FaultsRose (Some (Meter meter journal)) before now found left = Rose before now ⊎ Rose found.faults left.faults
FaultsRose asked before now found left = Rose before now
