use Rattle.std.specs.Prelude.{[]}
use Rattle.apart_roles.specs.Inputs.{follow_came}
use Rattle.apart_roles.proofs.StartLemmas.{HasFollowed}
use Rattle.apart_roles.proofs.start.follow.Given as goal

abbrev pub invariant-loop-turn : goal.invariant-loop-turn
invariant-loop-turn g l = (fixed : g.R.Role.Fixed) → g.R.Role.is_in fixed [] l.fn.role
    → HasFollowed (follow_came g.R.Role.reads (g.R.Role.can fixed)) (g.R.Role.is_in fixed) (g.W.Wire.view l.fn.wire) l.turn (g.W.Wire.view l.wire) l.role
