-- A run's groups may go to other threads, and threads may share them and the book.
use Rattle.std.proofs.Crossing.{crosses}
use denote.RattleType.{RattleType}
use denote.Ref.{NamedLft}
use denote.Param.Send.{IsSend, IsSync, sendable}
use Rattle.std.proofs.MapsCrossing as Maps
use Rattle.link_lanes.specs.contracts.Fate as Fate
use Rattle.lossy_link.specs.contracts.Link as Link
use Rattle.meter_frames.specs.contracts.Frame as Frame
use Rattle.plan_meters.specs.contracts.group_meters.GroupMeters as Meters
use Rattle.plan_meters.specs.contracts.hidden.HiddenReadings as Hidden
use Rattle.plan_meters.specs.contracts.known.Known as Known
use Rattle.group_plan.specs.contracts.table.Readings as Readings
use Rattle.transcript_log.specs.contracts.draft.Draft as Draft
use Rattle.transcript_log.specs.contracts.lines.Lines as Lines
use Rattle.shared_book.specs.contracts.parts.SharedBook as Book
use Rattle.shared_book.proofs.Crossings.{slot_send, seat_send, seat_sync, shared_sync, lease_sync, pages_sync, lines_sync, presence_sync}
use Rattle.tick_run.specs.contracts.context.Context as Context
use Rattle.collector_workers.specs.contracts.crew.Crew as Crew
use Rattle.tick_run.specs.contracts.running.Group as Group

link_send : IsSend Link.the_row
link_send = search (sendable, crosses, Maps.crosses) depth 60 fits 100000

link_sync : IsSync Link.the_row
link_sync = search (sendable, crosses, Maps.crosses) depth 60 fits 100000

pub lines_send : IsSend Lines.the_row
lines_send = search (sendable, crosses) depth 60 fits 100000

meters_send : IsSend Meters.the_row
meters_send = search (sendable, crosses) depth 60 fits 100000

meters_sync : IsSync Meters.the_row
meters_sync = search (sendable, crosses) depth 60 fits 100000

frame_send : IsSend Frame.the_row
frame_send = search (sendable, crosses) depth 60 fits 100000

frame_sync : IsSync Frame.the_row
frame_sync = search (sendable, crosses) depth 60 fits 100000

fate_send : IsSend Fate.the_row
fate_send = search (sendable, crosses) depth 60 fits 100000

fate_sync : IsSync Fate.the_row
fate_sync = search (sendable, crosses) depth 60 fits 100000

pub draft_send : IsSend Draft.the_row
draft_send = search (sendable, crosses) depth 60 fits 100000

readings_sync : IsSync Readings.the_row
readings_sync = search (sendable, crosses) depth 60 fits 100000

hidden_sync : IsSync Hidden.the_row
hidden_sync = search (sendable, crosses) depth 60 fits 100000

pub known_sync : (κ : NamedLft) (M : RattleType) → IsSync M → IsSync (Known.the_row κ M)
known_sync κ M s = search (sendable, crosses, readings_sync, hidden_sync) depth 60 fits 100000

crew_sync : (κ : NamedLft) (R G : RattleType) → IsSync R → IsSync G → IsSync (Crew.the_row κ R G)
crew_sync κ R G r g = search (sendable, crosses) depth 60 fits 100000

pub context_sync : (κ : NamedLft) (R M G : RattleType) → IsSync R → IsSync M → IsSync G → IsSync (Context.the_row κ R M G)
context_sync κ R M G r m g = search (sendable, crosses, readings_sync, hidden_sync) depth 60 fits 100000

pub group_send : IsSend Group.the_row
group_send = search (sendable, crosses, slot_send, seat_send, link_send, lines_send, meters_send, frame_send, fate_send) depth 60 fits 100000

pub group_sync : IsSync Group.the_row
group_sync = search (sendable, crosses, slot_send, seat_sync, link_sync, lines_sync, meters_sync, frame_sync, fate_sync) depth 60 fits 100000

pub book_sync : IsSync Book.the_row
book_sync = search (sendable, crosses, slot_send, shared_sync, lease_sync, pages_sync, lines_sync, presence_sync) depth 60
