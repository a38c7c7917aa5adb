use Rattle.std.proofs.Common.{List}
use Rattle.event_schedule.specs.declared.Entry.{Entry}
use Rattle.transcript_feed.proofs.SinkLemmas.{IsOn}
use Rattle.transcript_feed.proofs.sink.take_all.Given as goal

-- these entries are taken too, and the others are left
abbrev pub invariant-batches : goal.invariant-batches
invariant-batches g l = (es : List Entry) × IsOn g.row.S.Denot g.S.EntrySink.has l.fn.reader l.fn.sink es l.reader l.sink

abbrev pub decreases-batches : goal.decreases-batches
decreases-batches g l = l.reader.most
