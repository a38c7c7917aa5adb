use Rattle.std.proofs.Common.{rules, ◌≡◌, ◌∙◌, ℕ, List, sym, subst}
use Rattle.std.specs.Prelude.{Ok, Err}
use Rattle.pair_keys.specs.Keys.{table_of}
use Rattle.mask_stream.specs.KeyStreams.{streams}
use Rattle.event_schedule.specs.Events.{events_of}
use Rattle.ideal_masks.specs.Order.{AreOfPlan}
use Rattle.ideal_masks.specs.Pools.{nobody}
use Rattle.ideal_masks.proofs.ReplayLemmas.{events-same}
use Rattle.twin_worlds.specs.declared.answers.TwinError.{TwinError}
use Rattle.twin_worlds.specs.MovedRows.{rows_of}
use Rattle.twin_worlds.specs.Ends.{AgreementEnds, PooledAgreementEnds, RecordBookEnds}
use Rattle.twin_worlds.specs.Twins.{IsRecord, TwinEnds}
use Rattle.twin_worlds.proofs.TwinLemmas.{text-refused, book-refused, is-record, world-refused, tables-refused, twins-are, streams_small}
use Rattle.twin_worlds.proofs.twins.twin_of_read.Goals as goal

pub returns-in_err-transcript : goal.returns-in_err-transcript
returns-in_err-transcript g c = λ text read.
    let x = c.args.tables.now.first.now in
    let y = c.args.tables.now.second.now in
    let m = streams (table_of c.args.keys.now) in
    let e : TwinError = c.in_err-transcript.field-0.0 in
    let answered : Err (e) ≡ c.from_residual.result = search (rules, c.from_residual.ensures) in
    subst (TwinEnds m x y text) answered (world-refused m x y text e (text-refused m x text e (c.in_err-transcript.ensures.ends text read)))

pub returns-in_err-book : goal.returns-in_err-book
returns-in_err-book g c = λ text read.
    let x = c.args.tables.now.first.now in
    let y = c.args.tables.now.second.now in
    let m = streams (table_of c.args.keys.now) in
    let t = c.in_ok-transcript.transcript in
    let e : TwinError = c.in_err-book.field-0.0 in
    let answered : Err (e) ≡ c.from_residual-in_err-book.result = search (rules, c.from_residual-in_err-book.ensures) in
    subst (TwinEnds m x y text) answered
    (world-refused m x y text e (book-refused m x text t e (c.in_ok-transcript.ensures.ends text read) (subst (λ k. RecordBookEnds k x t (Err e)) c.new-masks.ensures.words c.in_err-book.ensures)))

pub returns-in_err-offsets : goal.returns-in_err-offsets
returns-in_err-offsets g c = λ text read.
    let x = c.args.tables.now.first.now in
    let y = c.args.tables.now.second.now in
    let m = streams (table_of c.args.keys.now) in
    let t = c.in_ok-transcript.transcript in
    let b = c.in_ok-book.book in
    let e : TwinError = c.in_err-offsets.field-0.0 in
    let answered : Err e ≡ c.from_residual-in_err-offsets.result = search (rules, c.from_residual-in_err-offsets.ensures) in
    let is : IsRecord m x text t = subst (λ k. IsRecord k x text t) c.new-masks.ensures.words (is-record _ x text t b (c.in_ok-transcript.ensures.ends text read) c.in_ok-book.ensures) in
    subst (TwinEnds m x y text) answered (tables-refused m x y text t e is (subst (λ es. AgreementEnds x y es (Err e)) (events-same x (events_of t.entries) b c.in_ok-book.ensures.2) c.in_err-offsets.ensures))

pub agreed_offsets-requires-clause-first : goal.agreed_offsets-requires-clause-first
agreed_offsets-requires-clause-first g c = c.in_ok-book.ensures.2.presence

pub moved_rows-requires-clause-places : goal.moved_rows-requires-clause-places
moved_rows-requires-clause-places g c =
    subst (λ p. AreOfPlan p c.in_ok-offsets.offsets) (sym (c.new-masks.ensures.plan ∙ c.requires.keys)) c.in_ok-offsets.ensures.2

pub returns : goal.returns
returns g c = λ text read.
    let x = c.args.tables.now.first.now in
    let y = c.args.tables.now.second.now in
    let m = streams (table_of c.args.keys.now) in
    let t = c.in_ok-transcript.transcript in
    let b = c.in_ok-book.book in
    let is : IsRecord m x text t = subst (λ k. IsRecord k x text t) c.new-masks.ensures.words (is-record _ x text t b (c.in_ok-transcript.ensures.ends text read) c.in_ok-book.ensures) in
    twins-are nobody m x y text t c.in_ok-offsets.offsets c.in_ok-moved_rows.field-0 (streams_small (table_of c.args.keys.now)) c.plan.ensures.table c.requires.second
    is (subst (λ es. PooledAgreementEnds nobody x y es (Ok c.in_ok-offsets.offsets)) (events-same x (events_of t.entries) b c.in_ok-book.ensures.2) c.in_ok-offsets.ensures) (subst (λ k. c.in_ok-moved_rows.field-0 ≡ rows_of k c.in_ok-offsets.offsets) c.new-masks.ensures.words c.in_ok-moved_rows.ensures.rows)
