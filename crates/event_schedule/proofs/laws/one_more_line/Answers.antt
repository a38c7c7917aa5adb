use Rattle.std.proofs.Common.{[]}
use Rattle.event_schedule.specs.Transcript.{shape_of_readings, contents_of_tables}
use Rattle.event_schedule.proofs.ScheduleLemmas.{after-reverse}
use Rattle.event_schedule.proofs.TranscriptLemmas.{lines_after-push}
use Rattle.event_schedule.proofs.laws.one_more_line.Goals as goal

pub returns : goal.returns
returns c = λ groups x m events e.
    rw (← after-reverse events) (lines_after-push (shape_of_readings groups x) (contents_of_tables groups x m) [] events e)
