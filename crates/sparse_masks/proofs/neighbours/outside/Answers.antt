use Rattle.std.proofs.Common.{ap, ◌∙◌, min}
use Rattle.missing_round.specs.Words.{group}
use Rattle.missing_round.specs.Sets.{less}
use Rattle.sparse_masks.proofs.OutsideLemmas.{outside-is}
use Rattle.sparse_masks.proofs.neighbours.outside.Goals as goal

pub returns-clause-outside : goal.returns-clause-outside
returns-clause-outside c =
    let xs = c.args.meters.now in
    c.minus-2.ensures
    ∙ ap (less xs) (c.minus.ensures ∙ ap (λ a. less a c.full-below.result) (c.full.ensures ∙ ap group c.min-2.ensures) ∙ ap (less (group (min c.args.until 256))) (c.full-below.ensures ∙ ap group c.min.ensures))
    ∙ outside-is c.args.from c.args.until xs c.bits-bits.ensures.set
