-- A transcript that keeps the entries that it takes.
use Rattle.std.specs.Prelude.{◌≡◌, List}
use Rattle.group_plan.specs.Plans.{PlanView}
use Rattle.event_schedule.specs.declared.Entry.{Entry}
use Rattle.event_schedule.specs.Transcripts.{TranscriptView}

-- the transcript is of this plan, and has these entries
abbrev pub IsKept : TranscriptView → PlanView → List Entry → Type 0
IsKept t plan es = t ≡ record { plan = plan; entries = es }
