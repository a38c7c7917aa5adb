-- What the bytes of the four files of `ringtwin` come to, for rings of width w.
use Rattle.sparse_masks.specs.Neighbours.{ring}
use Rattle.std.specs.Prelude.{ℕ, ◌≡◌, List, ◌≢◌, Err, ◌⊎◌, ⊤, Result, Ok}
use Rattle.group_plan.specs.Tables.{ReadingsView}
use Rattle.ideal_masks.specs.Offsets.{shift}
use Rattle.event_schedule.specs.Events.{events_of, lines_of}
use Rattle.event_schedule.specs.Tables.{Masks}
use Rattle.event_schedule.specs.Transcripts.{TranscriptView}
use Rattle.command_texts.specs.RingIsolation.{ring_between, AgreeOnRing}
use Rattle.twin_worlds.specs.declared.rows.MovedRow.{MovedRow}
use Rattle.twin_worlds.specs.MovedRows.{AreMoved}
use Rattle.twin_worlds.specs.Twins.{lines_under, IsRecord, SameWorldEnds}
use Rattle.sparse_masks.specs.declared.RingDiffer.{RingDiffer}
use Rattle.sparse_masks.specs.declared.RingDiffer.TheVariants.{Memory, Presence, Component}
use Rattle.sparse_masks.specs.OffsetEnds.{RingOffsetsEnd, HasNoRingWorlds}
use Rattle.mask_stream.specs.KeyStreams.{streams}
use Rattle.command_texts.specs.Twins.{TwinValues, TwinBytes, AreTwinValues, RefusesFirst, RefusesSecond}
use Rattle.twin_worlds.specs.declared.answers.TwinError.{TwinError}
use Rattle.plan_files.specs.PlanFiles.{plan_of}
use Rattle.event_schedule.specs.declared.Line.{Line}
use Rattle.twin_worlds.specs.declared.answers.TwinError.TheVariants as twin
use Rattle.command_words.specs.declared.outcome.Outcome.{Outcome}
use Rattle.command_words.specs.declared.outcome.Outcome.TheVariants.{NoMemory, BadPlan, BadReadings, BadText, Disagree}
use Rattle.command_words.specs.declared.text_fault.TextFault.TheVariants as of_text
use Rattle.command_words.specs.declared.disagreement.Disagreement.TheVariants as of_disagreement
use Rattle.command_words.specs.Words.{TwinNames}

-- ---- two worlds on a ring

-- the words m moved by the ring offsets from x to y, of which neighbours alone have theirs
abbrev pub ring_moved : ℕ → ReadingsView → ReadingsView → TranscriptView → Masks → Masks
ring_moved w x y t m = ring w x.plan.groups (shift (ring_between w x.plan x.table y.table (events_of t.entries)) m)

-- the tables agree on the ring, y gives the lines of t under the moved words, and the rows are the words of neighbours that move
pub record AreRingTwins (w : ℕ) (m : Masks) (x y : ReadingsView) (t : TranscriptView) (rows : List MovedRow) : Type 0 where
  pub agree : AgreeOnRing w x.plan x.table y.table (events_of t.entries)
  pub second : lines_of t.entries ≡ lines_under y (ring_moved w x y t m) t
  pub moved : AreMoved x.plan (ring w x.plan.groups m) (ring_moved w x y t m) rows

-- the first place where one table alone has a reading, or else the first opened component with other sums: then no ring words at all make the
-- transcripts one
pub record RingDisagree (w : ℕ) (x y : ReadingsView) (t : TranscriptView) (cause : RingDiffer) : Type 0 where
  pub known : cause ≢ Memory
  pub ends : RingOffsetsEnd w x y (events_of t.entries) (Err cause)
  pub no_worlds : HasNoRingWorlds w x y (events_of t.entries) cause

-- ---- what the files come to

-- the stream words of the keys that neighbours share
abbrev pub ring_words : ℕ → TwinValues → Masks
ring_words w values = ring w values.first.plan.groups (streams values.file.keys)

-- the files have values, the transcript is the record of the first table under the ring words, and the second table takes its place by these moved words
abbrev pub RingCompared : ℕ → TwinBytes → List MovedRow → Type 0
RingCompared w bytes rows =
    (values : TwinValues) × (t : TranscriptView) × AreTwinValues bytes values
    × IsRecord (ring_words w values) values.first bytes.transcript t × AreRingTwins w (streams values.file.keys) values.first values.second t rows

-- the files have values, and the transcript is no record of the first table under the ring words, by this cause
abbrev pub RingUnrecorded : ℕ → TwinBytes → TwinError → Type 0
RingUnrecorded w bytes error =
    (values : TwinValues) × AreTwinValues bytes values × SameWorldEnds (ring_words w values) values.first bytes.transcript (Err error)

-- the files have values, the transcript is such a record, and the tables don't agree on the ring, by this cause
abbrev pub RingDisagreed : ℕ → TwinBytes → RingDiffer → Type 0
RingDisagreed w bytes cause =
    (values : TwinValues) × (t : TranscriptView) × AreTwinValues bytes values
    × IsRecord (ring_words w values) values.first bytes.transcript t × RingDisagree w values.first values.second t cause

-- what the files say is refused, by its cause; want of memory is free
abbrev pub RingTwinRefuses : ℕ → TwinNames → TwinBytes → Outcome → Type 0
RingTwinRefuses w names bytes (BadPlan name fault) = (name.now ≡ names.plan) × (plan_of bytes.plan ≡ Err fault)
RingTwinRefuses w names bytes (BadReadings name fault) =
    ((name.now ≡ names.readings) × RefusesFirst bytes fault) ⊎ ((name.now ≡ names.other) × RefusesSecond bytes fault)
RingTwinRefuses w names bytes (BadText name (of_text.Transcript fault)) = (name.now ≡ names.transcript) × RingUnrecorded w bytes (twin.Transcript fault)
RingTwinRefuses w names bytes (BadText name of_text.OtherPlan) = (name.now ≡ names.transcript) × RingUnrecorded w bytes twin.Head
RingTwinRefuses w names bytes (BadText name (of_text.OtherLine line expected)) =
    (name.now ≡ names.transcript) × ((found : Line) × RingUnrecorded w bytes (twin.NotThis line expected.line found expected.tick expected.fate))
RingTwinRefuses w names bytes (Disagree (of_disagreement.Presence group round meter)) = RingDisagreed w bytes (Presence group round meter)
RingTwinRefuses w names bytes (Disagree (of_disagreement.Component group round least first second)) = RingDisagreed w bytes (Component group round least first second)
RingTwinRefuses w names bytes NoMemory = ⊤
RingTwinRefuses w names bytes _ = ⊥

-- the comparison of the bytes under these names
abbrev pub RingBytesCompared : ℕ → TwinNames → TwinBytes → Result (List MovedRow) Outcome → Type 0
RingBytesCompared w names bytes (Ok rows) = RingCompared w bytes rows
RingBytesCompared w names bytes (Err outcome) = RingTwinRefuses w names bytes outcome
