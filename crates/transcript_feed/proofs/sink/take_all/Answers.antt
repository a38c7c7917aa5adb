use Rattle.std.proofs.Common.{◌++◌, Ok, Option, Vec, subst, sym}
use Rattle.std.specs.declared.alloc.Global.{Global}
use Rattle.event_schedule.specs.declared.Entry.{Entry}
use Rattle.transcript_text.specs.Ahead.{AheadView, BatchEnds, IsNextBatch, entries_of}
use Rattle.transcript_feed.proofs.SinkLemmas.{IsOn, can_take, more_taken}
use Rattle.transcript_feed.proofs.sink.take_all.Goals as goal

pub read_beside-requires-after_bounds : goal.read_beside-requires-after_bounds
read_beside-requires-after_bounds g c κs within =
    let s = c.batches.invariant in
    let es = entries_of c.in-Ok-Some.batch.items in
    let next : IsNextBatch c.batches.reader es c.next_batch.new.self
    = subst (λ (o : Option (Vec (Vec Entry Global) Global)). BatchEnds c.batches.reader (Ok o) c.next_batch.new.self) c.in-Ok-Some.field-0-is c.in-Ok-Some.ensures in
    can_take g.row.S.Denot g.S.EntrySink.has c.args.reader.now c.args.sink s.0 c.batches.reader c.batches.sink s.1 es c.next_batch.new.self c.requires next

pub batches-preserved : goal.batches-preserved
batches-preserved g c =
    let has = g.S.EntrySink.has in
    let s = c.batches.invariant in
    let es = entries_of c.in-Ok-Some.batch.items in
    let next : IsNextBatch c.batches.reader es c.next_batch.new.self
    = subst (λ (o : Option (Vec (Vec Entry Global) Global)). BatchEnds c.batches.reader (Ok o) c.next_batch.new.self) c.in-Ok-Some.field-0-is c.in-Ok-Some.ensures in
    let on = more_taken g.row.S.Denot has c.args.reader.now c.args.sink s.0 c.batches.reader c.batches.sink s.1 es c.next_batch.new.self c.in_ok-sink.sink next c.in_ok-sink.ensures.done in
    (s.0 ++ es, subst (λ (r : AheadView). IsOn g.row.S.Denot has c.args.reader.now c.args.sink (s.0 ++ es) r c.in_ok-sink.sink) (sym c.read_beside.ensures.same) on)
