use Rattle.std.proofs.Common.{ap, ◌∙◌, arith}
use Rattle.group_book.specs.Books.{shape_of, past}
use Rattle.billing_read.specs.Searches.{PartnerOf}
use Rattle.billing_read.proofs.SearchLemmas.{none-all, partner-place}
use Rattle.billing_read.proofs.search.Search.first_partner.Goals as goal

pub returns : goal.returns
returns c =
    let q = c.args.self.now in
    let plan = q.readings.now.plan in
    let rounds = c.rounds.ensures.rounds ∙ ap (λ p. p.rounds) c.plan.ensures.plan in
    none-all (PartnerOf q) c.loop-round.round c.loop-round.invariant
    (λ p is. let below = (partner-place plan q.readings.now.table (shape_of q.book.now) (past q.book.now) q.from q.until q.place.group q.place.round q.place.meter p c.plan.ensures.table is).0 in
    let within = is.partner_period.1 in
    omega (arith, rounds, below, within, c.min-round-end.ensures, c.loop-round-test.false))
