use Rattle.std.proofs.Common.{◌∙◌, ap, arith}
use Rattle.missing_round.specs.Sets.{is_member}
use Rattle.missing_round.proofs.BlockLemmas.{has-member}
use Rattle.missing_round.proofs.MeterSet.has.Goals as goal

pub returns : goal.returns
returns c = has-member c.self.inside.blocks c.args.i (omega arith) ∙ ap (is_member c.args.i) c.self.view_is
