-- What two tables come to on a ring, for the values of files.
use Rattle.std.proofs.Common.{◌≡◌, ℕ, List, sym, subst, Err, Ok, ap, ◌∙◌, inl, inr}
use Rattle.event_schedule.specs.Tables.{Masks}
use Rattle.event_schedule.specs.Transcript.{transcript}
use Rattle.command_texts.specs.RingTwins.{ring_words, RingUnrecorded, RingCompared, ring_moved, RingTwinRefuses}
use Rattle.command_texts.specs.Twins.{TwinBytes, TwinValues, AreTwinValues}
use Rattle.event_schedule.specs.Transcripts.{TranscriptView}
use Rattle.twin_worlds.specs.Twins.{IsRecord, SameWorldEnds}
use Rattle.twin_worlds.specs.declared.answers.TwinError.{TwinError}
use Rattle.std.specs.Prelude.{reverse}
use Rattle.group_plan.specs.Plans.{PlanView}
use Rattle.group_plan.specs.Tables.{ReadingsView, reading}
use Rattle.ideal_masks.specs.declared.Offset.{Offset}
use Rattle.mask_stream.specs.KeyStreams.{streams}
use Rattle.event_schedule.specs.declared.Event.{Event}
use Rattle.event_schedule.specs.Events.{events_of}
use Rattle.sparse_masks.specs.OffsetEnds.{RingOffsetsEnd, HasRingWorlds, HasNoRingWorlds}
use Rattle.sparse_masks.proofs.WorldLemmas.{ring-shifts}
use Rattle.twin_worlds.specs.declared.rows.MovedRow.{MovedRow}
use Rattle.twin_worlds.specs.MovedRows.{AreMoved, AreMovedBy}
use Rattle.command_texts.specs.declared.sharing.Sharing.TheVariants.{WithNeighbours}
use Rattle.command_texts.specs.RingIsolation.{ring_between}
use Rattle.command_texts.proofs.StreamLemmas.{words_small}
use Rattle.sparse_masks.specs.declared.RingDiffer.{RingDiffer}
use Rattle.sparse_masks.specs.declared.RingDiffer.TheVariants.{Presence, Component, Memory}
use Rattle.command_words.specs.declared.outcome.Outcome.{Outcome}
use Rattle.command_words.specs.Words.{TwinNames}
use Rattle.command_texts.specs.RingTwinParts.{IsDisagreement}
use Rattle.plan_files.specs.PlanFiles.{PlanFileView, plan_of}
use Rattle.command_words.specs.declared.outcome.Outcome.TheVariants.{NoMemory, BadReadings}
use Rattle.command_texts.specs.TwinTexts.{TablesRefused}

-- ---- the values of files

-- the mask words of a table are the ring words of these values, and the text is theirs
pub record AreRingWords (w : ℕ) (bytes : TwinBytes) (values : TwinValues) (m : Masks) (text : List ℕ) : Type 0 where
  pub are : AreTwinValues bytes values
  pub words : m ≡ ring_words w values
  pub text_is : bytes.transcript ≡ text

pub ring_record : (w : ℕ) (bytes : TwinBytes) (values : TwinValues) (m : Masks) (text : List ℕ) (t : TranscriptView) → AreRingWords w bytes values m text → IsRecord m values.first text t
    → IsRecord (ring_words w values) values.first bytes.transcript t
ring_record w bytes values m text t of is =
    subst (λ (text : List ℕ). IsRecord (ring_words w values) values.first text t) (sym of.text_is) (subst (λ (m : Masks). IsRecord m values.first text t) of.words is)

pub ring_unrecorded : (w : ℕ) (bytes : TwinBytes) (values : TwinValues) (m : Masks) (text : List ℕ) (error : TwinError) → AreRingWords w bytes values m text
    → SameWorldEnds m values.first text (Err error) → RingUnrecorded w bytes error
ring_unrecorded w bytes values m text error of ends =
    (values, of.are, subst (λ (text : List ℕ). SameWorldEnds (ring_words w values) values.first text (Err error)) (sym of.text_is) (subst (λ (m : Masks). SameWorldEnds m values.first text (Err error)) of.words ends))

-- ---- two worlds

-- the moved words of a comparison whose tables agree
pub ring_compared : (w : ℕ) (bytes : TwinBytes) (values : TwinValues) (plan : PlanView) (m : Masks) (text : List ℕ) (t : TranscriptView) (list : List Offset) (rows : List MovedRow)
    → AreRingWords w bytes values m text → values.second.plan ≡ values.first.plan → plan ≡ values.first.plan → IsRecord m values.first text t
    → RingOffsetsEnd w values.first values.second (events_of t.entries) (Ok list) → HasRingWorlds w values.first values.second (events_of t.entries) → AreMovedBy plan m list rows
    → RingCompared w bytes rows
ring_compared w bytes values plan m text t list rows of plans plan_is record_is ends worlds moved =
    let x : ReadingsView = values.first in
    let y : ReadingsView = values.second in
    let keys : Masks = streams values.file.keys in
    let events : List Event = events_of t.entries in
    let o : Masks = ring_between w x.plan x.table y.table events in
    let is : IsRecord (ring_words w values) x bytes.transcript t = ring_record w bytes values m text t of record_is in
    let by_words : AreMovedBy x.plan (ring_words w values) list rows =
    subst (λ (plan : PlanView). AreMovedBy plan (ring_words w values) list rows) plan_is (subst (λ (m : Masks). AreMovedBy plan m list rows) of.words moved)
    in (
      values,
      t,
      of.are,
      is,
      record {
        agree = ends.0;
        second = is.lines_are ∙ sym (worlds keys) ∙ ap (λ (plan : PlanView). transcript plan.groups (reading y.table) (ring_moved w x y t keys) events) (sym plans);
        moved = subst (λ (k : Masks). AreMoved x.plan (ring_words w values) k rows) (sym (ring-shifts w x.plan.groups (reading x.table) (reading y.table) keys (reverse events)))
            (by_words (words_small (WithNeighbours w) x.plan values.file.keys) o ends.1);
      },
    )

-- the outcome of a comparison whose tables disagree
pub ring_disagreed : (w : ℕ) (names : TwinNames) (bytes : TwinBytes) (values : TwinValues) (m : Masks) (text : List ℕ) (t : TranscriptView) (cause : RingDiffer) (outcome : Outcome)
    → AreRingWords w bytes values m text → IsRecord m values.first text t → RingOffsetsEnd w values.first values.second (events_of t.entries) (Err cause)
    → HasNoRingWorlds w values.first values.second (events_of t.entries) cause → IsDisagreement cause outcome → RingTwinRefuses w names bytes outcome
ring_disagreed w names bytes values m text t (Presence g r i) outcome of record_is ends none is =
    subst (RingTwinRefuses w names bytes) (sym is) (values, t, of.are, ring_record w bytes values m text t of record_is, record { known = λ same. cc; ends = ends; no_worlds = none })
ring_disagreed w names bytes values m text t (Component g r i a b) outcome of record_is ends none is =
    subst (RingTwinRefuses w names bytes) (sym is) (values, t, of.are, ring_record w bytes values m text t of record_is, record { known = λ same. cc; ends = ends; no_worlds = none })
ring_disagreed w names bytes values m text t Memory outcome of record_is ends none is = subst (RingTwinRefuses w names bytes) (sym is) tt

-- ---- refused files

pub ring_tables_refused : (w : ℕ) (names : TwinNames) (bytes : TwinBytes) (file : PlanFileView) (outcome : Outcome) → plan_of bytes.plan ≡ Ok file → TablesRefused names bytes file.plan outcome
    → RingTwinRefuses w names bytes outcome
ring_tables_refused w names bytes file (BadReadings name fault) plan_is (inl (named, bad)) = inl (named, (file, plan_is, bad))
ring_tables_refused w names bytes file (BadReadings name fault) plan_is (inr (named, (first, first_is, bad))) = inr (named, (file, first, plan_is, first_is, bad))
ring_tables_refused w names bytes file NoMemory plan_is refused = tt
ring_tables_refused w names bytes file _ plan_is refused = absurd refused
