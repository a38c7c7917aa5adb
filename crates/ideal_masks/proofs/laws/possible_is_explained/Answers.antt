use Rattle.event_schedule.proofs.FrameLemmas.{possible}
use Rattle.ideal_masks.proofs.Explained.{explained}
use Rattle.ideal_masks.proofs.laws.possible_is_explained.Goals as goal

pub returns : goal.returns
returns c = λ groups ls small words.
    (explained groups ls words, λ found. possible groups found.0 found.1 ls found.2 (record { meters = small; readings = found.3 }) found.5)
