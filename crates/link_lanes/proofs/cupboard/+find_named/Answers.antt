use Rattle.link_lanes.proofs.FitLemmas.{named_next}
use Rattle.link_lanes.proofs.cupboard.+find_named.Goals as goal

pub returns-in-Some : goal.returns-in-Some
returns-in-Some g t c = named_next _ _ c.args.left.now c.first-item.result _ _ c.first-item.is c.in-len1-up.len_at_least c.is_named.ensures c.if-is_named.false c.in-Some.ensures
