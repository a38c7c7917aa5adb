use Rattle.link_lanes.proofs.RackLemmas.{racks}
use Rattle.link_lanes.proofs.laws.racks.Goals as goal

pub returns : goal.returns
returns c = racks
