use Rattle.std.proofs.Common.{◌∙◌, ap, arith}
use Rattle.std.proofs.lemmas.Nat.{or_lt}
use Rattle.missing_round.specs.Sets.{joined}
use Rattle.missing_round.proofs.BlockLemmas.{blocks-set, members-with}
use Rattle.missing_round.proofs.MeterSet.with.Goals as goal

pub invariant_of-result : goal.invariant_of-result
invariant_of-result c = blocks-set _ _ _ c.self.invariant (omega arith) (or_lt 64 _ _ (c.self.invariant.small _) (omega arith))

pub returns : goal.returns
returns c = members-with c.self.inside.blocks c.args.i c.self.invariant (omega arith) ∙ ap (joined c.args.i) c.self.view_is
