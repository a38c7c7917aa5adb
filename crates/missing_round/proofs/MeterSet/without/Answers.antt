use Rattle.std.proofs.Common.{◌∙◌, ap, arith}
use Rattle.missing_round.specs.Sets.{without}
use Rattle.missing_round.proofs.BlockLemmas.{blocks-set, and-lt, members-without}
use Rattle.missing_round.proofs.MeterSet.without.Goals as goal

pub invariant_of-result : goal.invariant_of-result
invariant_of-result c = blocks-set _ _ _ c.self.invariant (omega arith) (and-lt _ _ _ (c.self.invariant.small _))

pub returns : goal.returns
returns c = members-without c.self.inside.blocks c.args.i c.self.invariant (omega arith) ∙ ap (without c.args.i) c.self.view_is
