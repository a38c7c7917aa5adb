-- A list of lines that is kept small, as its callers see it.
use Rattle.std.specs.Prelude.{◌≡◌, ℕ, List, Some}
use Rattle.event_schedule.specs.declared.Line.{Line}
use Rattle.event_schedule.specs.declared.Line.TheVariants.{Send}

-- the lines, and for how many more there is room
pub record LinesView : Type 0 where
  pub items : List Line
  pub spare : ℕ

-- a frame of the line has the line's tag
abbrev pub HasOwnTag : Line → Type 0
HasOwnTag (Send tag (Some frame)) = frame.tag ≡ tag
HasOwnTag _ = Unit {0}
