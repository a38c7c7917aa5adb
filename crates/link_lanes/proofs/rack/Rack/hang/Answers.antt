use Rattle.std.proofs.Common.{arith}
use Rattle.link_lanes.proofs.CountLemmas.{up_to-hung}
use Rattle.link_lanes.proofs.rack.Rack.hang.Goals as goal

pub returns-in-Ok-clause-room : goal.returns-in-Ok-clause-room
returns-in-Ok-clause-room g c = up_to-hung _ _ _ _ _ c.in-Ok.ensures.items c.requires.room (omega arith)
