use Rattle.chacha_lanes.proofs.LaneLemmas.{rotated}
use Rattle.chacha_lanes.proofs.rounds.mixed.Goals as goal

pub returns : goal.returns
returns c = rotated c.args.bits c.requires.0 c.requires.1 c.args.word c.args.other c.fits-word.0 c.fits-other.0
