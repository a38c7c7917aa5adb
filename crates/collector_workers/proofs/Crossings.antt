-- Workers may go to other threads, which share the book.
use Rattle.std.proofs.Crossing.{crosses}
use denote.Param.Send.{IsSend, IsSync, sendable}
use Rattle.shared_book.specs.contracts.parts.Pass as Pass
use Rattle.shared_book.specs.contracts.parts.SharedBook as Book
use Rattle.shared_book.proofs.Crossings.{slot_send, seat_send, shared_sync, lease_sync, pages_sync, lines_sync, presence_sync}
use Rattle.shared_book.specs.contracts.parcel.Parcel as Parcel
use Rattle.transcript_log.specs.contracts.lines.Lines as Lines
use Rattle.collector_workers.specs.contracts.worker.Worker as Worker
use Rattle.collector_workers.specs.contracts.workload.Workload as Workload
use Rattle.collector_workers.specs.contracts.outcome.Outcome as Outcome

pub pass_send : IsSend Pass.the_row
pass_send = search (sendable, crosses, slot_send, seat_send) depth 60

pub lines_send : IsSend Lines.the_row
lines_send = search (sendable, crosses) depth 60

pub parcel_send : IsSend Parcel.the_row
parcel_send = search (sendable, crosses) depth 60

pub outcome_send : IsSend Outcome.the_row
outcome_send = search (sendable, crosses) depth 60 fits 100000

pub workload_send : IsSend Workload.the_row
workload_send = search (sendable, crosses, lines_send, parcel_send, outcome_send) depth 60 fits 100000

pub worker_send : IsSend Worker.the_row
worker_send = search (sendable, crosses, slot_send, seat_send, lines_send, parcel_send, outcome_send) depth 60 fits 100000

pub book_sync : IsSync Book.the_row
book_sync = search (sendable, crosses, slot_send, shared_sync, lease_sync, pages_sync, lines_sync, presence_sync) depth 60
