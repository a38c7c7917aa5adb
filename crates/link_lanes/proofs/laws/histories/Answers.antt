use Rattle.link_lanes.proofs.HistoryLemmas.{fates_by_posts_since}
use Rattle.link_lanes.proofs.laws.histories.Goals as goal

pub returns : goal.returns
returns c = fates_by_posts_since
