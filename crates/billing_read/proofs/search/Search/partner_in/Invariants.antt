use Rattle.billing_read.specs.Searches.{PartnerOf, HasNoneBefore}
use Rattle.billing_read.proofs.search.Search.partner_in.Given as goal

abbrev pub invariant-loop-meter : goal.invariant-loop-meter
invariant-loop-meter l = HasNoneBefore (PartnerOf l.self) l.round l.meter
