use Rattle.group_book.specs.Books.{shape_of, past}
use Rattle.sparse_masks.proofs.OpenedLemmas.{fewest-open, fewest-round}
use Rattle.sparse_masks.proofs.least.round_fewest.Goals as goal

pub returns-in-None : goal.returns-in-None
returns-in-None c =
    fewest-open c.args.width (shape_of c.args.book.now) (past c.args.book.now) c.args.group c.args.round c.args.fewest c.in-None.ensures c.requires.before

pub returns : goal.returns
returns c =
    let s = shape_of c.args.book.now in
    let p = past c.args.book.now in
    let is = c.in-Some.ensures in
    fewest-round c.args.width s p c.args.group c.args.round c.in-Some.ring.meters c.fewest.result is.meters
    (c.fewest.ensures c.args.width s c.args.group c.args.round p is c.requires.before)
