use denote.Param.Send.{sendable}
use Rattle.std.proofs.Crossing.{crosses}
use Rattle.shared_book.proofs.Crossings.{slot_send, seat_send, shared_sync, lease_sync, pages_sync, lines_sync, presence_sync}
use Rattle.shared_book.proofs.threads.crosses_threads.Goals as goal

pub may_be_shared-requires-sync-T : goal.may_be_shared-requires-sync-T
may_be_shared-requires-sync-T c κs = search (sendable, crosses, slot_send, shared_sync, lease_sync, pages_sync, lines_sync, presence_sync) depth 60

pub may_be_moved-requires-send-T : goal.may_be_moved-requires-send-T
may_be_moved-requires-send-T c κs = search (sendable, crosses, slot_send, seat_send) depth 60
