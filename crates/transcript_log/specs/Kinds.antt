-- What kind of line a line is.
use Rattle.std.specs.Prelude.{Bool, true, false, Some}
use Rattle.event_schedule.specs.declared.Line.{Line}
use Rattle.event_schedule.specs.declared.Line.TheVariants.{Send, Take}

-- a Send with a frame
abbrev pub is_sending : Line → Bool
is_sending (Send tag (Some frame)) = true
is_sending _ = false

-- a Take
abbrev pub is_taking : Line → Bool
is_taking (Take tag verdict) = true
is_taking _ = false
