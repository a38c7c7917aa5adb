use denote.Param.Send.{sendable}
use Rattle.std.proofs.Crossing.{crosses}
use Rattle.tick_run.proofs.Crossings.{group_sync, lines_send, draft_send}
use Rattle.tick_run.proofs.tick.pass_and_write.Goals as goal

pub make_both-written-requires-send-F : goal.make_both-written-requires-send-F
make_both-written-requires-send-F g c κs within = search (sendable, crosses, group_sync, lines_send, draft_send, c.type_bounds) depth 60 fits 100000
