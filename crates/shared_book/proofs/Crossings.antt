-- What a pass and a shared book are made of may go to another thread, or be shared between threads.
use Rattle.std.proofs.Crossing.{crosses}
use denote.RattleType.{RattleType}
use denote.Struct.Struct.{Struct}
use denote.Struct.Owning.{shape}
use denote.Param.Send.{IsSend, IsSync, Frees, sendable, part_keyless}
use Rattle.std.specs.contracts.option.Option as Opt
use Rattle.atomic_table.specs.declared.shared.TableRule.{Ghosts}
use Rattle.atomic_table.specs.contracts.shared.Seat as Seat
use Rattle.atomic_table.specs.contracts.shared.Shared as Shared
use Rattle.group_plan.specs.contracts.table.Presence as Presence
use Rattle.transcript_log.specs.contracts.lines.Lines as Lines
use Rattle.atomic_table.specs.contracts.send_lease.SendLease as Lease
use Rattle.atomic_table.proofs.Rights.{right_send}
use Rattle.atomic_table.proofs.Sent.{seat_keyless, shares_keyless}
use Rattle.std.specs.declared.alloc.Allocator as Allocator
use Rattle.group_book.specs.contracts.group_pages.GroupPages as Pages
use Rattle.shared_book.specs.contracts.handed.Handed as Slot

pub pages_send : IsSend Pages.the_row
pages_send = search (sendable, crosses) depth 60

pub handed_send : IsSend Slot.the_row
handed_send = search (sendable, crosses, pages_send) depth 60

pub slot_send : IsSend (Opt.the_row Slot.the_row)
slot_send = search (sendable, crosses, handed_send) depth 60

pub seat_send : (S V : RattleType) → IsSend S → IsSend (Seat.the_row S V)
seat_send S V s = record { owned = λ d vs. ((λ vss. (tt, ((λ uss. (tt, tt)), tt))), seat_keyless S s V.coded.code d.table_id d.id d.me); leaving = λ k f vs. tt }

-- nothing can be done with a seat that threads share
pub seat_sync : (S V : RattleType) → IsSend S → IsSync (Seat.the_row S V)
seat_sync S V s = record { shared = λ d b o ν q. part_keyless (Seat.the_row S V) (seat_send S V s) q d b o }

pub shared_sync : (S V K P : RattleType) (g : Ghosts P.Denot S.Denot V.Denot K.Denot) → IsSend S → IsSync (Shared.the_row S V K P g)
shared_sync S V K P g s = let fields : IsSync (Struct (shape (Shared.the_type S V K P g))) = search sendable depth 20 in
    record { shared = λ d b o ν. (fields.shared (d.words, (d.slots, (tt, tt))) b o ν, shares_keyless S s V.coded.code d.table_id (g.holds d.key) d.words d.slots ν) }

pub lease_sync : (T A : RattleType) (g : Allocator.Ghosts A.Denot) → Frees g g.dealloc_token → IsSync (Lease.the_row T A g)
lease_sync T A g f = record { shared = λ d b o ν q. part_keyless (Lease.the_row T A g) (right_send T A g f) q d b o }

pub presence_sync : IsSync Presence.the_row
presence_sync = search (sendable, crosses) depth 60

pub lines_sync : IsSync Lines.the_row
lines_sync = search (sendable, crosses) depth 60

pub pages_sync : IsSync Pages.the_row
pages_sync = search (sendable, crosses) depth 60
