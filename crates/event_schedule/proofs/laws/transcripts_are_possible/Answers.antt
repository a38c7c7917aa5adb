use Rattle.event_schedule.proofs.FrameLemmas.{possible}
use Rattle.event_schedule.proofs.laws.transcripts_are_possible.Goals as goal

pub returns : goal.returns
returns c = possible
