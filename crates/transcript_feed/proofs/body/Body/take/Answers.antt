use Rattle.std.proofs.Common.{Result, subst}
use Rattle.std.specs.Prelude.{IfOk}
use Rattle.std.specs.declared.alloc.AllocError.{AllocError}
use Rattle.transcript_text.specs.Ahead.{entries_of}
use Rattle.transcript_feed.specs.Sinks.{TakesEntries}
use Rattle.transcript_feed.proofs.FeedLemmas.{goes_on}
use Rattle.transcript_feed.proofs.body.Body.take.Goals as goal

pub returns : goal.returns
returns g c = λ version text is.
    let has = g.S.EntrySink.has in
    let old = c.args.self in
    let takes = subst (λ (r : Result g.row.S.Denot AllocError). IfOk r (TakesEntries has old.sink (entries_of old.read.items))) c.in_ok-done.was c.in_ok-feed.ensures.done in
    goes_on has version text c.args.bytes.now old (record { feed = c.in_ok-feed.field-0.feed; sink = c.in_ok-done.field-0; read = c.in_ok-feed.field-0.entries }) is c.in_ok-feed.ensures.fed takes
