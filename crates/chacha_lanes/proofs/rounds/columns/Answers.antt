use Rattle.rand_chacha.specs.Block.{column_round}
use Rattle.chacha_lanes.proofs.rounds.columns.Goals as goal

pub returns : goal.returns
unfolding column_round
returns c j h = rw (← c.quarter.ensures j h, ← c.quarter-2.ensures j h, ← c.quarter-3.ensures j h, ← c.quarter-4.ensures j h)
