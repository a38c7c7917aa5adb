use Rattle.std.proofs.Common.{refl}
use Rattle.rand_chacha.specs.Block.{quarter_round}
use Rattle.chacha_lanes.proofs.rounds.quarter.Goals as goal

pub returns : goal.returns
unfolding quarter_round
returns c j h =
    rw (
      c.line-4.ensures.word j h,
      c.line-4.ensures.sum j h,
      c.line-3.ensures.word j h,
      c.line-3.ensures.sum j h,
      c.line-2.ensures.word j h,
      c.line-2.ensures.sum j h,
      c.line.ensures.word j h,
      c.line.ensures.sum j h,
    ) refl
