use Rattle.plan_meters.specs.Hidden.{AreColumns}
use Rattle.plan_meters.proofs.hidden.words_by_round.Given as goal

-- the rows of the rounds so far
abbrev pub invariant-loop-later : goal.invariant-loop-later
invariant-loop-later l = AreColumns l.words l.later l.rows.items
