use Rattle.std.proofs.Common.{[], refl}
use Rattle.event_schedule.specs.Transcript.{lines_after}
use Rattle.event_schedule.proofs.JournalLemmas.{journal_is}
use Rattle.event_schedule.proofs.laws.journal_is_transcript.Goals as goal

pub returns : goal.returns
unfolding lines_after
returns c = λ groups x m journal of_plan bounded steps words. journal_is groups x m of_plan bounded [] journal refl steps words
