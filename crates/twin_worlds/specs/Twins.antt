-- How `twin` ends: x and y are the two tables of readings, m the mask words, and t the transcript whose text is judged.
use Rattle.std.specs.Prelude.{◌≡◌, ◌≢◌, ℕ, List, take, reverse, slice_get, Some, Result, Ok, Err, ⊤}
use Rattle.group_plan.specs.Tables.{ReadingsView, reading}
use Rattle.event_schedule.specs.declared.Event.{Event}
use Rattle.event_schedule.specs.declared.Line.{Line}
use Rattle.event_schedule.specs.Events.{lines_of, events_of}
use Rattle.event_schedule.specs.Tables.{Masks}
use Rattle.event_schedule.specs.Transcript.{transcript}
use Rattle.transcript_text.specs.declared.version.Version.TheVariants.{Two}
use Rattle.transcript_text.specs.declared.fault.ReadError.{ReadError}
use Rattle.transcript_text.specs.declared.fault.ReadError.TheVariants as fault
use Rattle.event_schedule.specs.Transcripts.{TranscriptView, IsTranscript}
use Rattle.transcript_text.specs.Spelling.{transcript_text}
use Rattle.transcript_text.specs.EntryLines.{entry_line}
use Rattle.transcript_text.specs.Heads.{read_of}
use Rattle.transcript_text.specs.Reading.{Fails}
use Rattle.transcript_text.specs.Writing.{IsWritable}
use Rattle.ideal_masks.specs.declared.Differ.{Differ}
use Rattle.ideal_masks.specs.declared.Differ.TheVariants as differ
use Rattle.ideal_masks.specs.declared.PoolDiffer.TheVariants as pool_differ
use Rattle.ideal_masks.specs.Pools.{Pool, nobody, ShareWords}
use Rattle.ideal_masks.specs.Offsets.{AgreeFor, offsets_for, shift}
use Rattle.ideal_masks.specs.Isolation.{offsets_between_for}
use Rattle.ideal_masks.specs.OffsetEnds.{IsAlike, IsFirstKnown, OffsetsEnd, PooledEnd, HasNoWorlds, HasNoWorldsFor}
use Rattle.twin_worlds.specs.declared.rows.MovedRow.{MovedRow}
use Rattle.twin_worlds.specs.declared.answers.TwinError.{TwinError}
use Rattle.twin_worlds.specs.declared.answers.TwinError.TheVariants as twin
use Rattle.twin_worlds.specs.declared.answers.PoolTwinError.{PoolTwinError}
use Rattle.twin_worlds.specs.declared.answers.PoolTwinError.TheVariants as pool_twin
use Rattle.twin_worlds.specs.MovedRows.{rows_of, AreMoved}

-- ---- the transcript

-- the bytes are the text of t
pub record IsTextOf (t : TranscriptView) (text : List ℕ) : Type 0 where
  pub sound : IsTranscript t
  pub text_is : text ≡ transcript_text t
  pub read : read_of Two text ≡ Ok t

-- what was read of a text: the transcript whose text it is, or its first fault; want of memory is free
abbrev pub IsReadOf : List ℕ → Result TranscriptView ReadError → Type 0
IsReadOf text (Ok t) = IsTextOf t text
IsReadOf text (Err f) = Fails f (read_of Two text)

-- the lines that the readings x give under the masks m for the events of t
abbrev pub lines_under : ReadingsView → Masks → TranscriptView → List Line
lines_under x m t = transcript x.plan.groups (reading x.table) m (events_of t.entries)

-- the bytes are the text of t, t is of the plan of x, and its lines are those of x under the masks m
pub record IsRecord (m : Masks) (x : ReadingsView) (text : List ℕ) (t : TranscriptView) : Type 0 where
  pub text_of : IsTextOf t text
  pub plan_is : t.plan ≡ x.plan
  pub lines_are : lines_of t.entries ≡ lines_under x m t

-- ---- the second world

-- the masks m, shifted for a pool so that y takes the place of x under the events of t
abbrev pub shifted_for : Pool → ReadingsView → ReadingsView → TranscriptView → Masks → Masks
shifted_for pool x y t m = shift (offsets_for pool x.plan.groups (reading x.table) (reading y.table) (reverse (events_of t.entries))) m

-- the tables agree for the pool, y gives the lines of t under the shifted masks, the pool has the same words, and the rows are the words
-- that the shift moves
pub record AreTwinsFor (pool : Pool) (m : Masks) (x y : ReadingsView) (t : TranscriptView) (rows : List MovedRow) : Type 0 where
  pub agree : AgreeFor pool x.plan.groups (reading x.table) (reading y.table) (reverse (events_of t.entries))
  pub second : lines_of t.entries ≡ lines_under y (shifted_for pool x y t m) t
  pub words : ShareWords pool m (shifted_for pool x y t m)
  pub rows_are : rows ≡ rows_of m (offsets_between_for pool x.plan x.table y.table (events_of t.entries))
  pub moved : AreMoved x.plan m (shifted_for pool x y t m) rows

-- and where nobody is in the pool
abbrev pub shifted : ReadingsView → ReadingsView → TranscriptView → Masks → Masks
shifted = shifted_for nobody

abbrev pub AreTwins : Masks → ReadingsView → ReadingsView → TranscriptView → List MovedRow → Type 0
AreTwins = AreTwinsFor nobody

-- ---- what is wrong

-- the line of entry k is the first that isn't the one of x under m: this one is due there, and that one stands there, at this tick and with this fate
pub record IsFirstOther (m : Masks) (x : ReadingsView) (t : TranscriptView) (k : ℕ) (expected found : Line) (tick : ℕ) (fate : List ℕ) : Type 0 where
  pub entry : slice_get t.entries k ≡ Some (record { tick = tick; fate = fate; line = found })
  pub before : take k (lines_of t.entries) ≡ take k (lines_under x m t)
  pub expected_is : slice_get (lines_under x m t) k ≡ Some expected
  pub other : expected ≢ found
  pub writable : IsWritable expected

-- the first place where one table alone has a reading, or else the first round that these events open with other totals: then no masks at all make
-- the transcripts one
pub record DisagreeAfter (x y : ReadingsView) (events : List Event) (cause : Differ) : Type 0 where
  pub known : cause ≢ differ.Memory
  pub ends : OffsetsEnd x y events (Err cause)
  pub no_worlds : HasNoWorlds x y events cause

abbrev pub Disagree : ReadingsView → ReadingsView → TranscriptView → Differ → Type 0
Disagree x y t cause = DisagreeAfter x y (events_of t.entries) cause

-- the first place where one table alone has a reading; or else, where the pool knows the same readings of both, the first round open to it
-- with other totals: then no masks at all that give the pool the same words make the transcripts one
pub record DisagreeForAfter (pool : Pool) (x y : ReadingsView) (events : List Event) (cause : Differ) : Type 0 where
  pub known : cause ≢ differ.Memory
  pub ends : PooledEnd pool x y events (Err (pool_differ.Other cause))
  pub no_worlds : HasNoWorldsFor pool x y events cause

abbrev pub DisagreeFor : Pool → ReadingsView → ReadingsView → TranscriptView → Differ → Type 0
DisagreeFor pool x y t cause = DisagreeForAfter pool x y (events_of t.entries) cause

-- the tables have the same presence, and this is the first place of a meter of the pool where they have another reading
pub record KnowsApart (pool : Pool) (x y : ReadingsView) (g r i : ℕ) : Type 0 where
  pub alike : (h q j : ℕ) → IsAlike (reading x.table) (reading y.table) h q j
  pub first : IsFirstKnown pool (reading x.table) (reading y.table) g r i

-- ---- the answer

-- a transcript of this text that the readings x give under the masks m; or the first cause in this order; want of memory is free
abbrev pub SameWorldEnds : Masks → ReadingsView → List ℕ → Result TranscriptView TwinError → Type 0
SameWorldEnds m x text (Ok t) = IsRecord m x text t
SameWorldEnds m x text (Err (twin.Transcript refusal)) = (refusal ≢ fault.Memory) × (read_of Two text ≡ Err refusal)
SameWorldEnds m x text (Err twin.Head) = (t : TranscriptView) × IsTextOf t text × (t.plan ≢ x.plan)
SameWorldEnds m x text (Err (twin.NotThis line expected found tick fate)) =
    (t : TranscriptView) × IsTextOf t text × (t.plan ≡ x.plan) × ((k : ℕ) × (line ≡ entry_line t.plan k) × IsFirstOther m x t k expected found tick fate)
SameWorldEnds m x text (Err (twin.Differ cause)) = ⊥
SameWorldEnds m x text (Err twin.Memory) = ⊤

-- the moved words; or the first cause in this order; want of memory is free
abbrev pub TwinEnds : Masks → ReadingsView → ReadingsView → List ℕ → Result (List MovedRow) TwinError → Type 0
TwinEnds m x y text (Ok rows) = (t : TranscriptView) × IsRecord m x text t × AreTwins m x y t rows
TwinEnds m x y text (Err (twin.Transcript refusal)) = (refusal ≢ fault.Memory) × (read_of Two text ≡ Err refusal)
TwinEnds m x y text (Err twin.Head) = (t : TranscriptView) × IsTextOf t text × (t.plan ≢ x.plan)
TwinEnds m x y text (Err (twin.NotThis line expected found tick fate)) =
    (t : TranscriptView) × IsTextOf t text × (t.plan ≡ x.plan) × ((k : ℕ) × (line ≡ entry_line t.plan k) × IsFirstOther m x t k expected found tick fate)
TwinEnds m x y text (Err (twin.Differ cause)) = (t : TranscriptView) × IsRecord m x text t × Disagree x y t cause
TwinEnds m x y text (Err twin.Memory) = ⊤

-- the same for a pool: presence comes first, then a reading that the pool knows, then a total of the others
abbrev pub PooledTwinEnds : Pool → Masks → ReadingsView → ReadingsView → List ℕ → Result (List MovedRow) PoolTwinError → Type 0
PooledTwinEnds pool m x y text (Ok rows) = (t : TranscriptView) × IsRecord m x text t × AreTwinsFor pool m x y t rows
PooledTwinEnds pool m x y text (Err (pool_twin.Known g r i)) = (t : TranscriptView) × IsRecord m x text t × KnowsApart pool x y g r i
PooledTwinEnds pool m x y text (Err (pool_twin.Other (twin.Differ cause))) = (t : TranscriptView) × IsRecord m x text t × DisagreeFor pool x y t cause
PooledTwinEnds pool m x y text (Err (pool_twin.Other error)) = TwinEnds m x y text (Err error)
