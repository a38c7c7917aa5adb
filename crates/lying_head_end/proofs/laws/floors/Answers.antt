use Rattle.event_schedule.specs.Transcript.{shape_of_readings}
use Rattle.lying_head_end.proofs.ActLemmas.{after-reverse, sets-reversed}
use Rattle.lying_head_end.proofs.GraphLemmas.{reaches_floor}
use Rattle.lying_head_end.proofs.laws.floors.Goals as goal

pub returns : goal.returns
returns c = λ pool groups x acts g r p sets. rw (← after-reverse acts) (reaches_floor pool (shape_of_readings groups x) _ g r p (sets-reversed acts sets))
