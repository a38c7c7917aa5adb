use Rattle.std.proofs.Common.{subst}
use Rattle.missing_round.specs.Sets.{IsSet}
use Rattle.missing_round.proofs.BlockLemmas.{set-members}
use Rattle.missing_round.proofs.MeterSet.members.Goals as goal

pub returns-clause-set : goal.returns-clause-set
returns-clause-set c = subst IsSet c.self.view_is (set-members c.self.inside.blocks)
