use Rattle.std.proofs.Common.{◌∙◌, ◌++◌, ℕ, List, Vec, ap, sym, subst}
use Rattle.std.specs.declared.alloc.Global.{Global}
use Rattle.group_plan.specs.Plans.{PlanView}
use Rattle.event_schedule.specs.declared.Entry.{Entry}
use Rattle.transcript_text.specs.Ahead.{entries_of}
use Rattle.transcript_text.specs.ReadBack.{HasHead}
use Rattle.transcript_text.specs.Reading.{before}
use Rattle.transcript_text.specs.Readers.{ReaderView}
use Rattle.transcript_feed.specs.Sinks.{CanTakeEntries, TakesEntries}
use Rattle.transcript_feed.proofs.FeedLemmas.{all_left, can_take, feed_ends}
use Rattle.transcript_feed.proofs.body.Body.finish.Goals as goal

pub take-requires : goal.take-requires
take-requires g c =
    let has = g.S.EntrySink.has in
    let b = c.args.self in
    subst (λ (xs : List (Vec Entry Global)). CanTakeEntries has b.sink (entries_of xs)) (sym c.deref.ensures.value) (can_take has c.requires.0 c.requires.1 b c.requires.2)

pub returns-clause-ends : goal.returns-clause-ends
returns-clause-ends g c = λ version text is.
    let has = g.S.EntrySink.has in
    let b = c.args.self in
    let es = entries_of b.read.items in
    let a = c.in-Ok.ahead in
    let takes = subst (λ (xs : List (Vec Entry Global)). TakesEntries has b.sink (entries_of xs) c.in_ok-sink.sink) c.deref.ensures.value c.in_ok-sink.ensures in
    let plan_is = c.in-Ok.ensures.plan ∙ ap (λ (v : ReaderView). v.plan) c.finish-reader.ensures.reader in
    let taken = subst (λ (p : PlanView). has c.in_ok-sink.sink p (is.taken ++ es)) (sym plan_is) (takes b.feed.reader.plan is.taken is.sink) in
    let final = c.args.last.now in
    let bytes_are = c.deref-2.ensures.value ∙ c.in_ok-extend_from_slice.ensures.items ∙ ap (λ (xs : List ℕ). xs ++ final) c.finish-reader.ensures.bytes in
    let all = all_left has version text final b is c.finish-reader.result.reader c.deref-2.result.now a c.finish-reader.ensures.reader bytes_are c.in-Ok.ensures in
    feed_ends version (text ++ final) a.plan (before (is.taken ++ es) a.left) all has c.take_all.result (subst (HasHead version) (sym plan_is) is.head) (c.take_all.ensures (is.taken ++ es) taken)
