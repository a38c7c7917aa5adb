use Rattle.plan_meters.specs.Hidden.{HideRounds}
use Rattle.plan_meters.proofs.hidden.words_one_by_one.Given as goal

-- the rows of the rounds so far
abbrev pub invariant-loop-later : goal.invariant-loop-later
invariant-loop-later g l = HideRounds l.readings (g.M.Masks.table l.masks) l.group l.first l.later l.rows.items
