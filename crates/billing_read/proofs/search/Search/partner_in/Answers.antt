use Rattle.std.proofs.Common.{ap, ◌∙◌, arith}
use Rattle.group_plan.specs.Plans.{size}
use Rattle.group_book.specs.Books.{shape_of, past}
use Rattle.billing_read.specs.Searches.{PartnerOf}
use Rattle.billing_read.proofs.SearchLemmas.{none-round, partner-place}
use Rattle.billing_read.proofs.search.Search.partner_in.Goals as goal

pub returns : goal.returns
returns c =
    let q = c.args.self.now in
    let plan = q.readings.now.plan in
    let end = c.meters-meter-end.ensures.meters ∙ ap (λ p. size p.groups q.place.group) c.plan.ensures.plan in
    none-round (PartnerOf q) c.args.round c.loop-meter.meter c.loop-meter.invariant
    (λ p is. let below = (partner-place plan q.readings.now.table (shape_of q.book.now) (past q.book.now) q.from q.until q.place.group q.place.round q.place.meter p c.plan.ensures.table is).1 in
    omega (arith, end, below, c.loop-meter-test.false))
