use Rattle.std.proofs.Common.{◌≡◌, ◌∙◌, ap}
use Rattle.std.specs.Prelude.{slice_get}
use Rattle.group_book.specs.Books.{shape_of, past}
use Rattle.ideal_masks.specs.Pools.{pool_of, others}
use Rattle.ideal_masks.proofs.SiftLemmas.{chain-is, others-are, announced_some}
use Rattle.ideal_masks.proofs.chain.chain_of.Goals as goal

pub returns : goal.returns
returns c =
    let sets = c.args.known.now in
    let s = shape_of c.args.book.now in
    let p = past c.args.book.now in
    let are : c.minus-others.result ≡ others (pool_of sets) s c.args.group c.args.round p
    = others-are sets s c.args.group c.args.round p c.known_in.result c.outcome-survivors.result.survivors c.minus-others.result c.known_in.ensures (ap (λ o. o.survivors) c.outcome-survivors.ensures.outcome) c.minus-others.ensures in
    chain-is (pool_of sets) s c.args.group c.args.round p (record { others = c.minus-others.result; answered = c.answered-answered.result; end = c.nth.result })
    (announced_some c.args.book.now c.args.group c.args.round c.announced.result c.announced.ensures c.if-is_none.ensures)
    are (c.answered-answered.ensures (pool_of sets) are) (c.nth.ensures ∙ ap (λ l. slice_get l 0) c.minus.ensures)
