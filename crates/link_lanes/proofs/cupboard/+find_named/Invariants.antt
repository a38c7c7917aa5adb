use Rattle.std.proofs.Common.{length}
use Rattle.link_lanes.proofs.cupboard.+find_named.Given as goal

abbrev pub decreases-find_named : goal.decreases-find_named
decreases-find_named g l = length l.left.now
