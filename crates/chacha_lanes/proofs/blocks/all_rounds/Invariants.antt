use Rattle.std.proofs.Common.{◌≡◌, ℕ, ◌<◌}
use Rattle.rand_chacha.specs.Block.{double_rounds}
use Rattle.rand_chacha.specs.Lanes.{lane}
use Rattle.chacha_lanes.proofs.blocks.all_rounds.Given as goal

-- so many double rounds are done in each lane
abbrev pub invariant-loop-done : goal.invariant-loop-done
invariant-loop-done l = (j : ℕ) → j < 8 → lane j l.x ≡ double_rounds l._done (lane j l.fn.first)
