use Rattle.std.proofs.Common.{◌∙◌, ap}
use Rattle.missing_round.specs.Sets.{less}
use Rattle.sparse_masks.proofs.RoundLemmas.{alone-is}
use Rattle.sparse_masks.proofs.round.Round.alone.Goals as goal

pub returns : goal.returns
returns c = c.minus.ensures ∙ ap (less c.args.self.now.survivors) c.without.ensures ∙ alone-is c.args.meter c.args.self.now.survivors
