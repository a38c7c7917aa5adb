use Rattle.std.proofs.Common.{◌∙◌, ap, length}
use Rattle.missing_round.proofs.BlockLemmas.{length-members}
use Rattle.missing_round.proofs.MeterSet.len.Goals as goal

pub returns : goal.returns
returns c = length-members c.self.inside.blocks c.self.invariant ∙ ap length c.self.view_is
