use Rattle.std.proofs.Common.{◌≡◌, ◌+◌, ◌++◌, All, List, ap, arith, drop, subst, sym}
use Rattle.event_schedule.specs.declared.Entry.{Entry}
use Rattle.event_schedule.specs.Transcripts.{Fits, NeverFalls, last_tick_from}
use Rattle.transcript_text.specs.Ahead.{entries_of}
use Rattle.transcript_feed.proofs.KeptLemmas.{can_fit, can_ticks, goes_on, next_of}
use Rattle.transcript_feed.proofs.keeping.put_lists.Goals as goal

pub put_all-requires-clause-ticks : goal.put_all-requires-clause-ticks
put_all-requires-clause-ticks c =
    let es = c.entries-item.result in
    let at = c.loop-entries.entries-index in
    let lists = c.args.lists.now in
    let t = c.loop-entries.transcript in
    let within = c.loop-entries-test.true in
    let next = ap entries_of (next_of lists at es (omega (arith, within)) (sym c.entries-item.is)) in
    let ticks = can_ticks c.args.transcript.now (entries_of lists) t (entries_of (drop at lists)) es.items (entries_of (drop (at + 1) lists)) c.loop-entries.invariant next in
    subst (NeverFalls (last_tick_from 0 t.entries)) (sym c.deref.ensures.value) ticks

pub put_all-requires-clause-fits : goal.put_all-requires-clause-fits
put_all-requires-clause-fits c =
    let es = c.entries-item.result in
    let at = c.loop-entries.entries-index in
    let lists = c.args.lists.now in
    let t = c.loop-entries.transcript in
    let within = c.loop-entries-test.true in
    let next = ap entries_of (next_of lists at es (omega (arith, within)) (sym c.entries-item.is)) in
    let fits = can_fit c.args.transcript.now (entries_of lists) t (entries_of (drop at lists)) es.items (entries_of (drop (at + 1) lists)) c.loop-entries.invariant next in
    subst (All (Fits t.plan)) (sym c.deref.ensures.value) fits

pub loop-entries-preserved : goal.loop-entries-preserved
loop-entries-preserved c =
    let es = c.entries-item.result in
    let at = c.loop-entries.entries-index in
    let lists = c.args.lists.now in
    let t = c.loop-entries.transcript in
    let now = c.put_all.new.transcript in
    let within = c.loop-entries-test.true in
    let next = ap entries_of (next_of lists at es (omega (arith, within)) (sym c.entries-item.is)) in
    let put = subst (λ (xs : List Entry). now ≡ record t { entries = t.entries ++ xs }) c.deref.ensures.value c.in_ok-put_all.ensures in
    goes_on c.args.transcript.now (entries_of lists) t (entries_of (drop at lists)) es.items (entries_of (drop (at + 1) lists)) c.loop-entries.invariant next now put
