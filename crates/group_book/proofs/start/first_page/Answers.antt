use Rattle.group_book.proofs.PlaceLemmas.{in_round}
use Rattle.group_book.proofs.start.first_page.Goals as goal

pub members-requires : goal.members-requires
members-requires c = let is = in_round c.args.plan.now c.args.group c.args.round c.requires in record { group = is.0; round = is.1 }
