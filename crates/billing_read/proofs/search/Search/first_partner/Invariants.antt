use Rattle.billing_read.specs.Searches.{PartnerOf, HasNoneBefore}
use Rattle.billing_read.proofs.search.Search.first_partner.Given as goal

abbrev pub invariant-loop-round : goal.invariant-loop-round
invariant-loop-round l = HasNoneBefore (PartnerOf l.self) l.round 0
