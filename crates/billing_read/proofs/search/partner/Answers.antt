use Rattle.event_schedule.specs.Events.{events_of}
use Rattle.billing_read.proofs.SearchLemmas.{first-of_events, found_hides}
use Rattle.billing_read.proofs.search.partner.Goals as goal

pub returns-clause-first : goal.returns-clause-first
returns-clause-first c =
    first-of_events c.args.readings.now (events_of c.args.transcript.now.entries) c.in_ok-book.book c.args.from c.args.until c.args.place.group c.args.place.round c.args.place.meter c.first_partner.result
    c.in_ok-book.ensures.events c.first_partner.ensures

pub returns-clause-hidden : goal.returns-clause-hidden
returns-clause-hidden c =
    let x = c.args.readings.now in
    let events = events_of c.args.transcript.now.entries in
    found_hides x events c.args.from c.args.until c.args.place.group c.args.place.round c.args.place.meter c.first_partner.result c.is_in_period.ensures.table
    (first-of_events x events c.in_ok-book.book c.args.from c.args.until c.args.place.group c.args.place.round c.args.place.meter c.first_partner.result c.in_ok-book.ensures.events c.first_partner.ensures)
