use Rattle.std.proofs.Common.{sym, arith}
use Rattle.group_book.specs.Books.{shape_of, past}
use Rattle.ideal_masks.specs.Chains.{pool_in, deltas_of}
use Rattle.ideal_masks.proofs.LinkLemmas.{link-answered, link-silent, link-none_there, walk-passes, walk-stays}
use Rattle.ideal_masks.proofs.compared.Compared.link.Goals as goal

pub returns-then-has-clause-row : goal.returns-then-has-clause-row
returns-then-has-clause-row c =
    let b = c.args.self.now.book.now in
    rw c.next_link.ensures
    (link-answered (pool_in c.args.self.now) (shape_of b) c.args.self.now.group c.args.self.now.round (past b) (deltas_of c.args.self.now) c.args.chain.now c.args.low c.delta.result c.args.walk.now c.pass.new.self
    c.requires.chain c.requires.walk (sym c.if-has.ensures) c.delta.ensures c.pass.ensures.ahead c.pass.ensures.sum)

pub returns-then-has-clause-walk : goal.returns-then-has-clause-walk
returns-then-has-clause-walk c =
    walk-passes (deltas_of c.args.self.now) c.args.chain.now.answered c.args.low c.delta.result c.args.walk.now c.pass.new.self
    c.requires.walk (sym c.if-has.ensures) c.delta.ensures c.pass.ensures.ahead c.pass.ensures.sum

pub returns-then-eq-clause-row : goal.returns-then-eq-clause-row
returns-then-eq-clause-row c =
    let b = c.args.self.now.book.now in
    rw c.last_link.ensures
    (link-silent (pool_in c.args.self.now) (shape_of b) c.args.self.now.group c.args.self.now.round (past b) (deltas_of c.args.self.now) c.args.chain.now c.args.low c.args.total _ c.args.walk.now
    c.requires.chain c.requires.walk (sym c.if-has.ensures) (sym c.if-eq.ensures) c.requires.total (let small = c.ranges.total.fits in omega arith))

pub returns-then-eq-clause-walk : goal.returns-then-eq-clause-walk
returns-then-eq-clause-walk c = walk-stays (deltas_of c.args.self.now) c.args.chain.now.answered c.args.low c.args.walk.now c.requires.walk (sym c.if-has.ensures)

pub returns-else-eq-clause-row : goal.returns-else-eq-clause-row
returns-else-eq-clause-row c =
    let b = c.args.self.now.book.now in
    link-none_there (pool_in c.args.self.now) (shape_of b) c.args.self.now.group c.args.self.now.round (past b) (deltas_of c.args.self.now) c.args.chain.now c.args.low c.args.walk.now
    c.requires.chain c.requires.walk (sym c.if-has.ensures) (sym c.if-eq.ensures)

pub returns-else-eq-clause-walk : goal.returns-else-eq-clause-walk
returns-else-eq-clause-walk c = walk-stays (deltas_of c.args.self.now) c.args.chain.now.answered c.args.low c.args.walk.now c.requires.walk (sym c.if-has.ensures)
