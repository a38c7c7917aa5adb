use Rattle.std.proofs.Common.{refl, ap, ◌∙◌}
use Rattle.group_plan.specs.Plans.{size}
use Rattle.group_book.specs.Books.{shape_of, past}
use Rattle.sparse_masks.proofs.OrderLemmas.{survivors-below}
use Rattle.sparse_masks.proofs.round.round_of.Goals as goal

pub returns : goal.returns
returns c =
    let b = c.args.book.now in
    let chain = c.in-Some.ensures in
    let meters = c.meters.ensures.meters ∙ ap (λ p. size p.groups c.args.group) c.plan.ensures in
    record {
      announced = chain.announced;
      width = refl;
      meters = meters;
      survivors = chain.others;
      answered = chain.answered;
      ring = record { few = c.meters.ensures.few; within = survivors-below (shape_of b) c.args.group c.args.round (past b) c.meters.result c.in-Some.chain.others meters chain.others };
    }
