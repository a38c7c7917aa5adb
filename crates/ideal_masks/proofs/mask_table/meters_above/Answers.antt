use Rattle.std.proofs.Common.{◌∙◌, ◌+◌, ap}
use Rattle.missing_round.specs.Sets.{less}
use Rattle.missing_round.specs.Words.{group}
use Rattle.ideal_masks.proofs.AboveLemmas.{above-is}
use Rattle.ideal_masks.proofs.mask_table.meters_above.Goals as goal

pub returns : goal.returns
returns c =
    c.minus.ensures ∙ ap (λ l. less l c.full-2.result) c.full.ensures
    ∙ ap (less (group c.args.meters)) (c.full-2.ensures ∙ ap (λ n. group (n + 1)) c.from.ensures)
    ∙ above-is c.args.meters (c.args.low + 1)
