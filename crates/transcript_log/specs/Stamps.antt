-- How a transcript is kept: its lines, and a stamp for each.
use Rattle.std.specs.Prelude.{◌≡◌, List, [], ◌∷◌, length}
use Rattle.group_plan.specs.Plans.{PlanView}
use Rattle.event_schedule.specs.declared.Line.{Line}
use Rattle.event_schedule.specs.declared.Entry.{Entry}
use Rattle.transcript_log.specs.declared.transcript.Stamp.{Stamp}
use Rattle.event_schedule.specs.Transcripts.{IsTranscript}

-- the entries: each stamp with its line
abbrev pub entries_of : List Stamp → List Line → List Entry
entries_of (s ∷ stamps) (l ∷ lines) = record { tick = s.tick; fate = s.fate; line = l } ∷ entries_of stamps lines
entries_of (s ∷ stamps) [] = []
entries_of [] lines = []

-- each line has its stamp, and with them they are a transcript of the plan
pub record IsStamped (plan : PlanView) (stamps : List Stamp) (lines : List Line) : Type 0 where
  pub long : length stamps ≡ length lines
  pub transcript : IsTranscript (record { plan = plan; entries = entries_of stamps lines })
