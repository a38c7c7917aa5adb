use Rattle.std.proofs.Common.{◌≡◌, subst, arith}
use Rattle.group_plan.specs.Tables.{reading}
use Rattle.group_book.specs.Books.{shape_of, past}
use Rattle.sparse_masks.specs.Opened.{Before}
use Rattle.sparse_masks.specs.SideParts.{one_sum}
use Rattle.sparse_masks.proofs.SumLemmas.{sums-round}
use Rattle.sparse_masks.proofs.sides.Sides.check_ring.Goals as goal

pub returns : goal.returns
returns c =
    let at = c.args.self.now in
    let test = c.loop-meter-test.false in
    let end = c.loop-meter.auto.meter-end in
    let all : c.loop-meter.meter ≡ c.args.ring.now.meters = omega (arith, test, end) in
    sums-round at.width (shape_of at.book.now) (reading at.first.now.table) (reading at.second.now.table) (past at.book.now) at.group at.round c.args.ring.now.meters c.requires.ring.meters
    (subst (Before (one_sum at) at.group at.round) all c.loop-meter.invariant)
