-- The parts of a twin, put together.
use Rattle.std.proofs.Common.{◌≡◌, ℕ, ◌^◌, ◌<◌, List, sym, ap, ◌∙◌, subst, arith}
use Rattle.std.specs.Prelude.{reverse, Option, Some, None, Result, Ok, Err}
use Rattle.chacha_lanes.proofs.WordBounds.{mask_word_small}
use Rattle.mask_stream.specs.KeyStreams.{word_of as stream_word_of, streams}
use Rattle.pair_keys.specs.Keys.{Keys}
use Rattle.group_plan.specs.Plans.{PlanView}
use Rattle.group_plan.specs.Tables.{ReadingsView, IsReadingTable, reading}
use Rattle.event_schedule.specs.Events.{events_of}
use Rattle.event_schedule.specs.Tables.{Masks, IsMasks}
use Rattle.event_schedule.specs.Transcript.{transcript}
use Rattle.event_schedule.proofs.ScheduleLemmas.{after-reverse}
use Rattle.event_schedule.specs.Transcripts.{TranscriptView}
use Rattle.group_book.specs.Books.{BookView}
use Rattle.ideal_masks.specs.declared.Offset.{Offset}
use Rattle.ideal_masks.specs.Pools.{Pool}
use Rattle.ideal_masks.specs.Offsets.{AgreeFor, offsets_for}
use Rattle.ideal_masks.specs.Isolation.{offsets_between_for}
use Rattle.ideal_masks.proofs.TwoWorlds.{two_worlds_for, words_stay}
use Rattle.twin_worlds.specs.declared.rows.MovedRow.{MovedRow}
use Rattle.twin_worlds.specs.declared.answers.TwinError.{TwinError}
use Rattle.twin_worlds.specs.declared.answers.TwinError.TheVariants as twin
use Rattle.twin_worlds.specs.MovedRows.{rows_of, AreMoved}
use Rattle.twin_worlds.specs.declared.answers.PoolTwinError.{PoolTwinError}
use Rattle.twin_worlds.specs.declared.answers.PoolTwinError.TheVariants as pool_twin
use Rattle.twin_worlds.specs.Twins.{IsTextOf, lines_under, IsRecord, shifted_for, SameWorldEnds, TwinEnds, PooledTwinEnds}
use Rattle.twin_worlds.specs.Ends.{TextEnds, HeadEnds, BookEnds, RecordBookEnds, AgreementEnds, PooledAgreementEnds}
use Rattle.twin_worlds.proofs.MovedLemmas.{are-moved}

-- ---- the stream words of keys

word_small : (key : Option (List ℕ)) (round : ℕ) → stream_word_of key round < 2 ^ 64
word_small None round = omega arith
word_small (Some key) round = mask_word_small key round

pub streams_small : (keys : Keys) → IsMasks (streams keys)
streams_small keys = record { own = λ g r i. word_small _ r; pair = λ g r i j. word_small _ r }

-- ---- refusals of the first world

-- the text is refused
pub text-refused : (m : Masks) (x : ReadingsView) (text : List ℕ) (e : TwinError) → TextEnds text (Err e) → SameWorldEnds m x text (Err e)
text-refused m x text (twin.Transcript refusal) ends = ends
text-refused m x text twin.Head ends = absurd ends
text-refused m x text (twin.NotThis line expected found tick fate) ends = absurd ends
text-refused m x text (twin.Differ cause) ends = absurd ends
text-refused m x text twin.Memory ends = tt

-- the text is refused
pub head-refused : (plan : PlanView) (text : List ℕ) (e : TwinError) → TextEnds text (Err e) → HeadEnds plan text (Err e)
head-refused plan text (twin.Transcript refusal) ends = ends
head-refused plan text twin.Head ends = absurd ends
head-refused plan text (twin.NotThis line expected found tick fate) ends = absurd ends
head-refused plan text (twin.Differ cause) ends = absurd ends
head-refused plan text twin.Memory ends = tt

-- the plan is refused, or a line is
pub book-refused : (m : Masks) (x : ReadingsView) (text : List ℕ) (t : TranscriptView) (e : TwinError) → IsTextOf t text → RecordBookEnds m x t (Err e) → SameWorldEnds m x text (Err e)
book-refused m x text t (twin.Transcript refusal) text_of ends = absurd ends.1
book-refused m x text t twin.Head text_of other = (t, text_of, other)
book-refused m x text t (twin.NotThis line expected found tick fate) text_of ends = (t, text_of, ends.0, ends.1)
book-refused m x text t (twin.Differ cause) text_of ends = absurd ends.1
book-refused m x text t twin.Memory text_of ends = tt

-- a book of the lines is one of the record
pub book-ends : (m : Masks) (x : ReadingsView) (t : TranscriptView) (result : Result BookView TwinError) → t.plan ≡ x.plan → BookEnds m x t result → RecordBookEnds m x t result
book-ends m x t (Ok b) plan_is ends = (plan_is, ends.0, ends.1)
book-ends m x t (Err (twin.Transcript refusal)) plan_is ends = (plan_is, ends)
book-ends m x t (Err twin.Head) plan_is ends = absurd ends
book-ends m x t (Err (twin.NotThis line expected found tick fate)) plan_is ends = (plan_is, ends)
book-ends m x t (Err (twin.Differ cause)) plan_is ends = (plan_is, ends)
book-ends m x t (Err twin.Memory) plan_is ends = tt

pub is-record : (m : Masks) (x : ReadingsView) (text : List ℕ) (t : TranscriptView) (b : BookView) → IsTextOf t text → RecordBookEnds m x t (Ok b) → IsRecord m x text t
is-record m x text t b text_of ends = record { text_of = text_of; plan_is = ends.0; lines_are = ends.1 }

pub world-refused : (m : Masks) (x y : ReadingsView) (text : List ℕ) (e : TwinError) → SameWorldEnds m x text (Err e) → TwinEnds m x y text (Err e)
world-refused m x y text (twin.Transcript refusal) ends = ends
world-refused m x y text twin.Head ends = ends
world-refused m x y text (twin.NotThis line expected found tick fate) ends = ends
world-refused m x y text (twin.Differ cause) ends = absurd ends
world-refused m x y text twin.Memory ends = tt

pub world-refused_for : (pool : Pool) (m : Masks) (x y : ReadingsView) (text : List ℕ) (e : TwinError) → SameWorldEnds m x text (Err e) → PooledTwinEnds pool m x y text (Err (pool_twin.Other e))
world-refused_for pool m x y text (twin.Transcript refusal) ends = ends
world-refused_for pool m x y text twin.Head ends = ends
world-refused_for pool m x y text (twin.NotThis line expected found tick fate) ends = ends
world-refused_for pool m x y text (twin.Differ cause) ends = absurd ends
world-refused_for pool m x y text twin.Memory ends = tt

-- ---- the second world

-- the tables don't agree
pub tables-refused : (m : Masks) (x y : ReadingsView) (text : List ℕ) (t : TranscriptView) (e : TwinError) → IsRecord m x text t → AgreementEnds x y (events_of t.entries) (Err e) → TwinEnds m x y text (Err e)
tables-refused m x y text t (twin.Transcript refusal) is ends = absurd ends
tables-refused m x y text t twin.Head is ends = absurd ends
tables-refused m x y text t (twin.NotThis line expected found tick fate) is ends = absurd ends
tables-refused m x y text t (twin.Differ cause) is ends = (t, is, ends)
tables-refused m x y text t twin.Memory is ends = tt

pub tables-refused_for : (pool : Pool) (m : Masks) (x y : ReadingsView) (text : List ℕ) (t : TranscriptView) (e : PoolTwinError) → IsRecord m x text t → PooledAgreementEnds pool x y (events_of t.entries) (Err e) → PooledTwinEnds pool m x y text (Err e)
tables-refused_for pool m x y text t (pool_twin.Known g r i) is ends = (t, is, ends)
tables-refused_for pool m x y text t (pool_twin.Other (twin.Transcript refusal)) is ends = absurd ends
tables-refused_for pool m x y text t (pool_twin.Other twin.Head) is ends = absurd ends
tables-refused_for pool m x y text t (pool_twin.Other (twin.NotThis line expected found tick fate)) is ends = absurd ends
tables-refused_for pool m x y text t (pool_twin.Other (twin.Differ cause)) is ends = (t, is, ends)
tables-refused_for pool m x y text t (pool_twin.Other twin.Memory) is ends = tt

-- the tables agree, and these are the moved words
pub twins-are : (pool : Pool) (m : Masks) (x y : ReadingsView) (text : List ℕ) (t : TranscriptView) (list : List Offset) (rows : List MovedRow) → IsMasks m → IsReadingTable x.plan x.table → y.plan ≡ x.plan
    → IsRecord m x text t → PooledAgreementEnds pool x y (events_of t.entries) (Ok list) → rows ≡ rows_of m list → PooledTwinEnds pool m x y text (Ok rows)
twins-are pool m x y text t list rows small table plans record_is agreed rows_are =
    let events = events_of t.entries in
    let groups = x.plan.groups in
    let given : rows ≡ rows_of m (offsets_between_for pool x.plan x.table y.table events) = rows_are ∙ ap (rows_of m) agreed.1 in
    let worlds : AgreeFor pool groups (reading x.table) (reading y.table) (reverse events) → transcript groups (reading y.table) (shifted_for pool x y t m) events ≡ lines_under x m t
    = rw (← after-reverse events) (two_worlds_for pool groups (reading x.table) (reading y.table) m events table.of_members) in (
      t,
      record_is,
      record {
        agree = agreed.0;
        second = record_is.lines_are ∙ sym (worlds agreed.0) ∙ ap (λ p. transcript p.groups (reading y.table) (shifted_for pool x y t m) events) (sym plans);
        words = words_stay pool groups (reading x.table) (reading y.table) m (reverse events) small;
        rows_are = given;
        moved = subst (AreMoved x.plan m (shifted_for pool x y t m)) (sym given) (are-moved x.plan (offsets_for pool groups (reading x.table) (reading y.table) (reverse events)) m small);
      },
    )
