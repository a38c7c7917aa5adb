-- How a draft is kept: a stamp for each entry, and a journal that begins with their lines.
use Rattle.std.specs.Prelude.{◌≡◌, ℕ, ◌≤◌, List, [], ◌++◌, length}
use Rattle.group_plan.specs.Plans.{PlanView}
use Rattle.event_schedule.specs.declared.Line.{Line}
use Rattle.event_schedule.specs.declared.Entry.{Entry}
use Rattle.transcript_log.specs.declared.transcript.Stamp.{Stamp}
use Rattle.event_schedule.specs.Transcripts.{IsTranscript}
use Rattle.transcript_log.specs.Stamps.{entries_of}

-- the journal begins with these lines
pub record Begins (journal lines : List Line) : Type 0 where
  pub rest : List Line
  pub is : journal ≡ lines ++ rest

-- the entry of a line that has no copies
abbrev pub quiet : ℕ → Line → Entry
quiet t line = record { tick = t; fate = []; line = line }

-- each stamp has its line, and with them they are a transcript of the plan
pub record IsDrafted (plan : PlanView) (stamps : List Stamp) (lines : List Line) : Type 0 where
  pub long : length stamps ≤ length lines
  pub transcript : IsTranscript (record { plan = plan; entries = entries_of stamps lines })
